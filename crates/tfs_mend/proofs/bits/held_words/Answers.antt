use Rattle.std.proofs.Common.{◌≡◌, ◌*◌, ◌-◌, length, take, rules, arith, ◌∙◌}
use lib.ListN.{length-take}
use borrow.Author.Count.{below_none}
use Rattle.list_laws.specs.Least.{least-le}
use Rattle.tfs_mend.specs.Search.{searched-least}
use Rattle.tfs_mend.specs.Missing.{word_lacks, bytes-held, words-held}
use Rattle.tfs_mend.proofs.bits.held_words.Goals as goal

pub returns-then-none_lacks-clause-held : goal.returns-then-none_lacks-clause-held
returns-then-none_lacks-clause-held c =
    let all : length (take (4 * c.args.n - 0) c.args.map.now) ≡ 4 * c.args.n - 0 = simp length-take (omega arith) in
    bytes-held c.args.map.now c.args.owned.now c.args.n (4 * c.args.n - 0) (omega arith) (rw all at (c.none_lacks.ensures c.if-none_lacks.true))

pub returns-clause-few : goal.returns-clause-few
returns-clause-few c =
    let lacks = word_lacks c.args.map.now c.args.owned.now in
    let least = searched-least lacks _ (λ k b g. search rules) 0 c.args.n (below_none _) c.first.result c.first.ensures in
    omega (arith, c.unwrap_or.ensures, least, least-le lacks c.args.n)

pub returns-clause-held : goal.returns-clause-held
returns-clause-held c =
    let lacks = word_lacks c.args.map.now c.args.owned.now in
    let least = searched-least lacks _ (λ k b g. search rules) 0 c.args.n (below_none _) c.first.result c.first.ensures in
    words-held c.args.map.now c.args.owned.now (λ i. search rules) (λ i. search rules) c.args.n _ (c.unwrap_or.ensures ∙ least)
