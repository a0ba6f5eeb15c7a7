use Rattle.std.proofs.Common.{ℕ, List, ap, ◌∙◌, get_or, arith, rules}
use Rattle.tfs_spec.specs.Layout.{set_bits, set_slot, entry, inode_block}
use Rattle.tfs_facts.specs.Fetched.{place-content, place-inode, place_map, place-dir}
use Rattle.tfs_fetch.specs.Stored.{stored, rest-is}
use Rattle.tfs_fetch.specs.Create.{create_one}
use Rattle.tfs_fetch.proofs.create.create_block.Goals as goal

pub returns-then-content : goal.returns-then-content
returns-then-content c =
    create_one _ _ _ _ c.requires.plan _ _
    (stored _ _ _ _ (place-content _ _ _ _ _ _ _ c.requires.store.0 (omega arith))
    (search (rules, c.requires.out)))

pub returns-then-inode : goal.returns-then-inode
returns-then-inode c =
    create_one _ _ _ _ c.requires.plan _ _
    (stored _ _ _ _ (place-inode _ _ _ _ _ _ _ (omega (arith, c.requires.plan.many)) (omega arith))
    (c.put_inode.ensures ∙ ap (inode_block 512 c.args.size) (rest-is _)))

pub returns-then-map : goal.returns-then-map
returns-then-map c =
    create_one _ _ _ _ c.requires.plan _ _
    (stored _ _ _ _ (place_map _ _ _ _ _ _ _ (omega (arith, c.requires.plan.many)) (omega arith))
    (c.put_bits.ensures ∙ ap (λ (m : List ℕ). set_bits m 1 c.args.plan.blocks.now) (c.copy_block.ensures ∙ c.map_of.ensures.0)))

pub returns : goal.returns
returns c =
    create_one _ _ _ _ c.requires.plan _ _
    (stored _ _ _ _ (place-dir _ _ _ _ _ c.args.plan.blocks.now c.args.k (omega (arith, c.requires.plan.many)) (omega arith))
    (c.put_slot.ensures ∙ ap (λ (d : List ℕ). set_slot d c.args.plan.slot (entry (get_or c.args.plan.blocks.now 0 0) c.args.name.now)) (c.copy_block-2.ensures ∙ c.dir_of.ensures.0)))
