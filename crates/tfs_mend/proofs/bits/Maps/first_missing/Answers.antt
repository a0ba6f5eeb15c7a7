use Rattle.std.proofs.Common.{rules}
use Rattle.tfs_mend.specs.Search.{searched-some, searched-none}
use Rattle.tfs_mend.specs.Missing.{is_missing}
use Rattle.tfs_mend.proofs.bits.Maps.first_missing.Goals as goal

pub returns-clause-found : goal.returns-clause-found
returns-clause-found c =
    let maps = c.args.self.now in
    searched-some (is_missing maps.map.now maps.owned.now) _ (λ k b g. search rules) _ _ c.held_words-words.ensures.held c.first.result c.first.ensures

pub returns-clause-none : goal.returns-clause-none
returns-clause-none c =
    let maps = c.args.self.now in
    searched-none (is_missing maps.map.now maps.owned.now) _ (λ k b g. search rules) _ _ c.held_words-words.ensures.held c.first.result c.first.ensures
