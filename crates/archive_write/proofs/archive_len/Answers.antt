-- `archive_write::archive_len` meets its contract: the sections have the lengths of their entries, and no sum or product overflows.
use native.Mathlib.Omega.{arith}
use Rattle.archive_write.proofs.Archive.{archive_long, bases-most, normals-most}
use Rattle.archive_write.proofs.archive_len.Goals as goal

pub overflow_mul-result-6 : goal.overflow_mul-result-6
overflow_mul-result-6 c = let p = c.requires in omega (arith, normals-most c.args.sizes.now p.limits.0 p.listed.0 p.listed.1)

pub overflow_add-result-6 : goal.overflow_add-result-6
overflow_add-result-6 c =
    let zs = c.args.sizes.now in
    let p = c.requires in
    omega (arith, bases-most zs p.limits.0 p.listed.0 p.listed.1, normals-most zs p.limits.0 p.listed.0 p.listed.1)

pub returns : goal.returns
returns c = let p = c.requires in omega (arith, c.sets_in-listed.ensures.value, archive_long c.args.sizes.now p.limits.0 p.listed.0 p.listed.1 p.limits.1)
