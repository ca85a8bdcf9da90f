-- What the two programs print for the bytes of their standard input (document 01: "The programs read at most 65,536 bytes and print `too long` above that, or `refused` and the number.
-- The builder lends 65,536 bytes of output and writes just the archive's bytes").
--
--   longest        how many bytes the programs read, and the builder lends
--   refused n      the line for stop n
--   limited s t    the text t for an input s that is not too long
--   built_text o    what is printed for the outcome of a build
--   listed_text p   what is printed for what was read of an archive
--   builder s      what the builder prints for the input s
--   lister s       what the lister prints for the input s
use Rattle.std.specs.Prelude.{cond, List, ◌++◌, ℕ, leb, length}
use Rattle.text_decimals.specs.Decimals.{ascii, decimal}
use Rattle.fields_walk.specs.Parsed.{Parsed, stop, got}
use Rattle.archive_entries.specs.Layout.{Held}
use Rattle.archive_entries.specs.Reading.{read_archive}
use Rattle.call_answers.specs.Answers.{Outcome, stop as stopped, bytes, within}
use Rattle.call_answers.specs.Calls.{builds}
use Rattle.text_listing.specs.Listing.{listing}

abbrev pub longest : ℕ
longest = 65536

unfoldable pub refused : ℕ → List ℕ
refused n = ascii "refused " ++ (decimal n ++ ascii "\n")

abbrev pub limited : List ℕ → List ℕ → List ℕ
limited s text = cond (leb (length s) longest) text (ascii "too long\n")

abbrev pub built_text : Outcome → List ℕ
built_text (stopped n) = refused n
built_text (bytes xs) = xs

unfoldable pub builder : List ℕ → List ℕ
builder s = limited s (built_text (within longest (builds s)))

abbrev pub listed_text : Parsed Held → List ℕ
listed_text (stop n) = refused n
listed_text (got a rest) = listing a

unfoldable pub lister : List ℕ → List ℕ
lister s = limited s (listed_text (read_archive s))
