use Rattle.std.proofs.Common.{sym, ◌∙◌, arith, rules}
use Rattle.romfs_spec.specs.Check.{fault, walk}
use Rattle.romfs_headers.proofs.Found.{some-is, none-is}
use Rattle.romfs_links.specs.Facts.{full_at_least}
use Rattle.romfs_check.proofs.Laws as laws
use Rattle.romfs_check.proofs.walk.walk_all.Goals as goal

pub first_root-requires : goal.first_root-requires
first_root-requires c = full_at_least _ _ c.requires.0 c.args.image.whole.is

pub walk_list-requires : goal.walk_list-requires
walk_list-requires c =
    let e = some-is _ _ c.in-Some.ensures in (
      record {
        whole = c.args.image.whole;
        before = laws.root-in-full _ _ _ c.requires.0 e.0 c.args.image.whole.is e.1;
        within = omega arith;
        deep = omega arith;
        reached = laws.root-reached _ _ _ e.0 c.args.image.whole.is e.1;
      },
      c.requires.1,
      c.requires.2,
    )

pub returns-in-Some-clause-verdict : goal.returns-in-Some-clause-verdict
unfolding walk
returns-in-Some-clause-verdict c =
    let e = some-is _ _ c.in-Some.ensures in
    c.walk_list.ensures.verdict ∙ laws.root-some c.args.image.bytes.now (fault c.args.image.bytes.now) _ _ e.0 c.args.image.whole.is e.1

pub returns-in-None-clause-verdict : goal.returns-in-None-clause-verdict
unfolding walk
returns-in-None-clause-verdict c =
    let e = none-is _ _ c.in-None.ensures in
    laws.root_none c.args.image.bytes.now (fault c.args.image.bytes.now) _ _ (sym e) c.args.image.whole.is (search rules)
