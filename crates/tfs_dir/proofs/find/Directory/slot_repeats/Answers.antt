use mathlib.Core.Path.{ap, ◌∙◌}
use mathlib.Core.List.{List}
use Prim.Native.Nat.{ℕ}
use lib.Dec.{ltb}
use Rattle.lists.specs.Lists.{least}
use Rattle.tfs_spec.specs.Layout.{slot_name}
use Rattle.tfs_dir.specs.Find.{slot_holds, slot_repeats, found-below}
use Rattle.tfs_dir.proofs.find.Directory.slot_repeats.Goals as goal

pub returns : goal.returns
unfolding slot_repeats slot_holds
returns c =
    let name = c.name-name.ensures ∙ ap slot_name c.slot.ensures in
    c.is_some.ensures
    ∙ found-below c.first_named.result c.args.s c.first_named.ensures.below
    ∙ ap (λ (t : ℕ). ltb t c.args.s) (c.first_named.ensures.first ∙ ap (λ (l : List ℕ). least (slot_holds c.args.self.bytes.now l) c.args.s) name)
