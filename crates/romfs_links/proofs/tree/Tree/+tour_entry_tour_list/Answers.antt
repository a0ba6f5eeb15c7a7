use Rattle.std.proofs.Common.{refl, sym, ◌∙◌, arith, rules}
use Rattle.romfs_headers.proofs.Found.{some-is, none-is, list-some}
use Rattle.romfs_links.proofs.Laws as laws
use Rattle.romfs_links.proofs.tree.Tree.+tour_entry_tour_list.Goals as goal

pub tour_entry-overflow_sub-left : goal.tour_entry-overflow_sub-left
tour_entry-overflow_sub-left t c =
    let l = list-some _ _ _ (rw (c.header.ensures.image, c.header.ensures.at) at c.in-Some.ensures) in
    laws.at_left _ _ _ _ _ c.requires.0 l.0

pub tour_entry-tour_list-requires : goal.tour_entry-tour_list-requires
tour_entry-tour_list-requires t c =
    let l = list-some _ _ _ (rw (c.header.ensures.image, c.header.ensures.at) at c.in-Some.ensures) in
    let left = laws.at_left _ _ _ _ _ c.requires.0 l.0 in
    let v = c.visit-here.ensures in
    (search rules, (laws.at-list _ _ _ _ _ c.requires.0 l.0 _ _ l.1 l.2, rw v.lo v.window, rw v.lo v.state))

pub tour_entry-returns-in-Some-clause-fine : goal.tour_entry-returns-in-Some-clause-fine
tour_entry-returns-in-Some-clause-fine t c =
    let l = list-some _ _ _ (rw (c.header.ensures.image, c.header.ensures.at) at c.in-Some.ensures) in
    let v = c.visit-here.ensures in
    let y = c.tour_list.ensures in
    laws.fine-below _ _ _ _ _ _ _ _ _ c.requires.0 (laws.fine-kept _ _ _ _ _ _ _ _ _ y.kept v.fine) _ _ l.1 l.2 (rw v.lo at y.fine)

pub tour_list-returns-in_default-clause-fine : goal.tour_list-returns-in_default-clause-fine
tour_list-returns-in_default-clause-fine t c =
    let i = c.loop-next.invariant in
    let y = c.tour_entry-here.ensures in
    let e = none-is _ _ (rw (c.header.ensures.image, c.header.ensures.at) at c.in_default.ensures.next) in
    rw (← i.1) (laws.rest-last _ _ _ _ _ _ _ _ _ _ _ _ i.5 y.kept y.fine 0 (sym e) refl)

pub tour_list-loop-next-smaller : goal.tour_list-loop-next-smaller
tour_list-loop-next-smaller t c =
    let e = some-is _ _ (rw (c.header.ensures.image, c.header.ensures.at) at c.in-Some.ensures.next) in
    let n = laws.at_next _ _ _ _ _ c.loop-next.invariant.0 _ e.0 e.1 in
    omega (arith, n.0, n.1)

pub tour_list-loop-next-preserved : goal.tour_list-loop-next-preserved
tour_list-loop-next-preserved t c =
    let i = c.loop-next.invariant in
    let y = c.tour_entry-here.ensures in
    let e = some-is _ _ (rw (c.header.ensures.image, c.header.ensures.at) at c.in-Some.ensures.next) in (
      (laws.at_next _ _ _ _ _ i.0 _ e.0 e.1).2,
      y.lo ∙ i.1,
      rw y.lo y.window,
      rw y.lo y.state,
      (omega (arith, i.4, y.kept), omega (arith, i.4, y.kept)),
      rw y.lo (laws.rest-next _ _ _ _ _ _ _ _ _ _ _ _ i.5 y.kept y.fine _ e.0),
    )
