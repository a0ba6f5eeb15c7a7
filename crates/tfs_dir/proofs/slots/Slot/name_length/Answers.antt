use mathlib.Core.Path.{ap, sym, ◌∙◌}
use mathlib.Core.List.{List}
use Prim.Native.Nat.{ℕ}
use native.Mathlib.Omega.{arith}
use Rattle.lists.specs.Lists.{first_zero}
use Rattle.tfs_dir.specs.Slots.{length-name, name-le}
use Rattle.tfs_dir.proofs.slots.Slot.name_length.Goals as goal

pub returns : goal.returns
returns c =
    let long = c.first_zero.ensures ∙ ap (λ (l : List ℕ). first_zero l) c.name_field.ensures.bytes ∙ sym (length-name c.args.self.bytes.now c.args.self.whole) in
    (long, omega (arith, long, name-le c.args.self.bytes.now c.args.self.whole))
