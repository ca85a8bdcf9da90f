-- Writing a list part by part, each over the front of what the parts before it left (document 01: "Each section is written straight after the one before it").
--
--   Writing all left l m at   of the list `all`, all but `left` is written over the front of l, which is m now; `at` elements are
use Rattle.std.specs.Prelude.{◌≡◌, List, ◌++◌, ℕ}
use Rattle.fields.specs.Written.{Wrote}

module _ {A : Type 0} where
  pub record Writing (all left l m : List A) (at : ℕ) : Type 0 where
    pub done : List A
    pub wrote : Wrote done l m at
    pub whole : done ++ left ≡ all
