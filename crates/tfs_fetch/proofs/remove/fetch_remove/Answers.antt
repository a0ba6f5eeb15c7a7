use Rattle.std.proofs.Common.{◌≡◌, sym, ap, ◌∙◌, true}
use Rattle.tfs_spec.specs.Layout.{view}
use Rattle.tfs_spec.specs.Requests.{granted, remove_view}
use Rattle.tfs_facts.specs.Fetched.{fetch-remove}
use Rattle.tfs_fetch.specs.Stored.{none_so, one_so}
use Rattle.tfs_fetch.specs.Remove.{remove_many, remove_found, remove_one}
use Rattle.tfs_fetch.proofs.remove.fetch_remove.Goals as goal

pub returns-then-unfetched : goal.returns-then-unfetched
returns-then-unfetched c =
    let grant : granted (remove_view 512 (view 512 c.args.image.now) c.args.name.now) ≡ true = sym (ap granted (remove_found _ _ _ c.in_ok-s.ensures.told)) in
    let g = none_so _ _ _ _ _ _ (fetch-remove 512 _ c.requires.passed _ _ _) 2 (remove_many _ _) grant (sym c.unfetched.ensures ∙ c.if-unfetched.true) in
    record { answer = g.0; buffer = g.1 }

pub returns : goal.returns
returns c =
    let grant : granted (remove_view 512 (view 512 c.args.image.now) c.args.name.now) ≡ true = sym (ap granted (remove_found _ _ _ c.in_ok-s.ensures.told)) in
    let g = one_so _ _ _ _ _ _ (fetch-remove 512 _ c.requires.passed _ _ _) 2 (remove_many _ _) grant (sym c.unfetched.ensures ∙ c.if-unfetched.false) _ _
    (remove_one _ _ _ c.in_ok-s.ensures.told _ _ c.remove_block.ensures) in
    record { answer = g.0; buffer = g.1 }
