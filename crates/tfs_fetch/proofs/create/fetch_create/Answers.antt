use Rattle.std.proofs.Common.{◌≡◌, sym, ap, ◌∙◌, true}
use Rattle.tfs_spec.specs.Layout.{view}
use Rattle.tfs_spec.specs.Requests.{granted, create_view}
use Rattle.tfs_facts.specs.Fetched.{fetch-create}
use Rattle.tfs_fetch.specs.Stored.{none_so, one_so}
use Rattle.tfs_fetch.specs.Create.{create_many}
use Rattle.tfs_fetch.proofs.create.fetch_create.Goals as goal

pub returns-then-unfetched : goal.returns-then-unfetched
returns-then-unfetched c =
    let grant : granted (create_view 512 (view 512 c.args.image.now) c.args.name.now c.args.size) ≡ true = sym (ap granted c.in_ok-plan.ensures.answer) in
    let g = none_so _ _ _ _ _ _ (fetch-create 512 _ c.requires.passed _ _ _ _) _ (create_many _ _ _ _ c.in_ok-plan.ensures.plan) grant (sym c.unfetched.ensures ∙ c.if-unfetched.true) in
    record { answer = g.0; buffer = g.1 }

pub returns : goal.returns
returns c =
    let grant : granted (create_view 512 (view 512 c.args.image.now) c.args.name.now c.args.size) ≡ true = sym (ap granted c.in_ok-plan.ensures.answer) in
    let g = one_so _ _ _ _ _ _ (fetch-create 512 _ c.requires.passed _ _ _ _) _ (create_many _ _ _ _ c.in_ok-plan.ensures.plan) grant (sym c.unfetched.ensures ∙ c.if-unfetched.false) _ _ c.create_block.ensures in
    record { answer = g.0; buffer = g.1 }
