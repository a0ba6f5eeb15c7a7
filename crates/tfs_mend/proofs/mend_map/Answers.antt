use Rattle.std.proofs.Common.{sym, arith, ◌∙◌}
use Rattle.tfs_facts.specs.Views.{view-map}
use Rattle.lists.specs.Lists.{least}
use Rattle.tfs_check.specs.Order.{kept_long}
use Rattle.tfs_mend.specs.Mended.{mend-missing, mend-done}
use Rattle.tfs_mend.proofs.mend_map.Goals as goal

pub map_of-requires : goal.map_of-requires
map_of-requires c = kept_long _ c.requires.kept

pub returns-in-Some-clause-verdict : goal.returns-in-Some-clause-verdict
returns-in-Some-clause-verdict c =
    let (below, least) = rw (c.map_of.ensures.0, c.blocks-n.ensures.0) at c.in-Some.ensures.found in
    (mend-missing _ c.requires.kept _ c.requires.marked _ least below).0

pub returns-in-Some-clause-image : goal.returns-in-Some-clause-image
returns-in-Some-clause-image c =
    let (below, least) = rw (c.map_of.ensures.0, c.blocks-n.ensures.0) at c.in-Some.ensures.found in
    (mend-missing _ c.requires.kept _ c.requires.marked _ least below).1

pub clear_map-requires-clause-long : goal.clear_map-requires-clause-long
clear_map-requires-clause-long c = kept_long _ c.requires.kept

pub clear_map-requires-clause-none : goal.clear_map-requires-clause-none
clear_map-requires-clause-none c = rw (c.map_of.ensures.0, view-map) at c.in_default.ensures.none

pub returns-clause-verdict : goal.returns-clause-verdict
returns-clause-verdict c =
    let none = rw (c.map_of.ensures.0, c.blocks-n.ensures.0) at c.in_default.ensures.none in
    (mend-done _ c.requires.kept _ c.requires.marked _ (sym none) (omega arith)).0

pub returns-clause-image : goal.returns-clause-image
returns-clause-image c =
    let img = c.args.image.now in
    let none = rw (c.map_of.ensures.0, c.blocks-n.ensures.0) at c.in_default.ensures.none in
    rw c.blocks-n.ensures.0 at c.clear_map.ensures ∙ (mend-done img c.requires.kept _ c.requires.marked _ (sym none) (omega arith)).1
