-- The tallies of document 02, computed from the definitions.
use mathlib.Core.Path.{◌≡◌, refl}
use mathlib.Core.List.{[], ◌∷◌, flat_map}
use lib.Count.{ones, ones_in}
use Rattle.lattice.specs.Sets.{sets}
use Rattle.cube.specs.Cube.{cuboid, total, grouped}
use Rattle.cube.specs.Condensed.{proper, single, listed, shared, common, normals, ours}
use Rattle.cube.specs.Table.{folded}
use Rattle.small_model.specs.Small.{codes_at, tables}
use Rattle.small_model.specs.Tally.{entries, having, occurring, fields}

pub one-dimension : fields 1 ≡ 1 ∷ 1 ∷ 3 ∷ 3 ∷ 1 ∷ []
unfolding ones ones_in flat_map sets cuboid total grouped proper single listed shared common normals ours folded codes_at tables entries having occurring fields
one-dimension = refl

pub two_dimensions : fields 2 ≡ 2 ∷ 1 ∷ 5 ∷ 3 ∷ 2 ∷ 4 ∷ 4 ∷ 6 ∷ 4 ∷ 9 ∷ 1 ∷ []
unfolding ones ones_in flat_map sets cuboid total grouped proper single listed shared common normals ours folded codes_at tables entries having occurring fields
two_dimensions = refl

pub three_dimensions : fields 3 ≡ 3 ∷ 1 ∷ 9 ∷ 3 ∷ 4 ∷ 4 ∷ 12 ∷ 6 ∷ 12 ∷ 7 ∷ 8 ∷ 8 ∷ 24 ∷ 9 ∷ 24 ∷ 11 ∷ 10 ∷ 12 ∷ 48 ∷ 13 ∷ 6 ∷ 14 ∷ 6 ∷ 15 ∷ 8 ∷ 16 ∷ 48 ∷ 19 ∷ 16 ∷ 20 ∷ 12 ∷ 23 ∷ 8 ∷ 27 ∷ 1 ∷ []
unfolding ones ones_in flat_map sets cuboid total grouped proper single listed shared common normals ours folded codes_at tables entries having occurring fields
three_dimensions = refl
