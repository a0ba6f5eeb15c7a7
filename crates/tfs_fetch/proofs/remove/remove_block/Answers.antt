use Rattle.std.proofs.Common.{ℕ, List, ap, ◌∙◌, arith}
use Rattle.std.proofs.Math.Path.{ap₂}
use Rattle.lists.specs.Lists.{zeros}
use Rattle.tfs_spec.specs.Layout.{set_bits, set_slot}
use Rattle.tfs_fetch.specs.Remove.{erase_first, erase_second}
use Rattle.tfs_fetch.proofs.remove.remove_block.Goals as goal

pub returns-then-directory : goal.returns-then-directory
returns-then-directory c =
    erase_first _ _ _ c.args.k (omega arith) _
    (c.clear_slot.ensures ∙ ap (λ (d : List ℕ). set_slot d c.args.s (zeros 20)) (c.copy_block.ensures ∙ c.dir_of.ensures.0))

pub returns : goal.returns
returns c =
    erase_second _ _ _ c.args.k c.requires.store.0 c.requires.store.1 (λ e. omega arith) _
    (c.put_bits.ensures ∙ ap₂ (λ (m l : List ℕ). set_bits m 0 l) (c.copy_block-2.ensures ∙ c.map_of.ensures.0) c.blocks_of-blocks.ensures.claims)
