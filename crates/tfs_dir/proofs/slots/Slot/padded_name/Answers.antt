use mathlib.Core.Path.{◌≡◌, ap, ◌∙◌}
use mathlib.Core.List.{List, ◌++◌}
use Prim.Native.Nat.{ℕ, ◌-◌}
use native.Mathlib.Omega.{arith}
use lib.ListN.{length, drop}
use Rattle.lists.specs.Lists.{zeros}
use Rattle.tfs_spec.specs.Layout.{slot_name}
use Rattle.tfs_dir.specs.Slots.{name-cut, name-le}
use Rattle.tfs_dir.specs.Entry.{pad-with}
use Rattle.tfs_dir.proofs.slots.Slot.padded_name.Goals as goal

pub returns : goal.returns
returns c =
    let name = slot_name c.args.self.bytes.now in
    let copied = c.copy_from_slice.ensures.after ∙ name-cut c.args.self.bytes.now c.args.self.whole c.name_length-k.result c.name_length-k.ensures.0 in
    let rest : c.name_length-k.result - 0 ≡ length name = omega (arith, c.name_length-k.ensures.0) in
    ap (λ (l : List ℕ). l ++ drop (c.name_length-k.result - 0) (zeros 16)) copied
    ∙ ap (λ (k : ℕ). name ++ drop k (zeros 16)) rest
    ∙ pad-with name 16 (name-le c.args.self.bytes.now c.args.self.whole)
