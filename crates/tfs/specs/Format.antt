-- A label that is allowed.
use Rattle.std.specs.Prelude.{◌≡◌, true, ℕ, ◌≤◌, List, length, T, ltb, eqb}
use Rattle.std.proofs.Common.{arith, ltb→lt}
use Rattle.lists.specs.Lists.{first_zero}
use Rattle.list_laws.specs.Test.{of-true, and_l}
use Rattle.tfs_spec.specs.Layout.{label_allowed}

pub label_short : (label : List ℕ) → label_allowed label ≡ true → length label ≤ 15
unfolding label_allowed
label_short label e =
    let t : T (ltb (length label) 16) = and_l (ltb (length label) 16) (eqb (first_zero label) (length label)) (of-true (label_allowed label) e) in
    omega (arith, ltb→lt (length label) 16 t)
