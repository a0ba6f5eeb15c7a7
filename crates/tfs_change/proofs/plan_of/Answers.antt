use Rattle.std.proofs.Common.{refl, sym, ◌∙◌, arith}
use Rattle.tfs_spec.specs.Layout.{view}
use Rattle.tfs_facts.specs.Chosen.{CreateGrant}
use Rattle.tfs_change.specs.Create.{none_found, granted_by, answered, taken}
use Rattle.tfs_change.proofs.plan_of.Goals as goal

pub returns : goal.returns
returns c =
    let grant : CreateGrant 512 (view 512 c.args.image.now) c.args.name.now c.args.size =
    granted_by _ _ _ (sym c.name_allowed.ensures ∙ c.if-not-name_allowed.false) c.if-size-gt-MAX_SIZE.false
    (none_found _ _ c.slot_of.ensures.first (sym c.is_some.ensures ∙ c.if-is_some.false)) (omega (arith, c.in-Some.ensures.first, c.in-Some.ensures.below)) (omega (arith, c.free_blocks.ensures.0, c.blocks_needed-want.ensures))
    in
    record {
      answer = answered _ _ _ grant c.requires.passed _ c.blocks_needed-want.ensures _ _ c.choose.ensures _ refl;
      plan = taken _ _ _ grant c.requires.passed _ c.blocks_needed-want.ensures _ _ c.choose.ensures _ c.in-Some.ensures.first refl;
    }
