-- `call_keys::keys_read` meets its contract: the smallest keys are the smallest sets of which no cell is shared, and are written where there is room.
use mathlib.Core.Path.{refl, sym, ap, ◌∙◌}
use mathlib.Core.List.{List}
use Prim.Native.Nat.{ℕ}
use Rattle.call_answers.specs.Answers.{bytes}
use Rattle.call_answers.proofs.Answers.{answered_as}
use Rattle.call_answers.proofs.Outcomes.{keys-bytes}
use Rattle.archive_cells.specs.ListBytes.{list_bytes}
use Rattle.call_ask.proofs.Opened.{opened_of}
use Rattle.call_keys.proofs.Bare.{least-bare, bare-short}
use Rattle.call_keys.proofs.Outcomes.{laid, shared_in}
use Rattle.call_keys.proofs.keys_read.Goals as goal

pub fit_bare-requires : goal.fit_bare-requires
fit_bare-requires c = ((opened_of c.args.archive.now).ready.dims, (shared_in (opened_of c.args.archive.now) c.args.archive.now.words.now c.args.used.now refl c.requires).sets, bare-short (laid (opened_of c.args.archive.now)) (shared_in (opened_of c.args.archive.now) c.args.archive.now.words.now c.args.used.now refl c.requires))

pub returns : goal.returns
returns c = answered_as (keys-bytes (opened_of c.args.archive.now) ∙ ap (λ (l : List ℕ). bytes (list_bytes l)) (sym (least-bare (laid (opened_of c.args.archive.now)) (shared_in (opened_of c.args.archive.now) c.args.archive.now.words.now c.args.used.now refl c.requires)))) c.fit_bare.ensures
