-- The statements of timing_spec, each proved under its own name, from the proved statements of tfs_spec.
use Rattle.tfs_proofs.specs.Proved as book
use Rattle.timing_spec.specs.Laws.{Statements}
use Rattle.timing_proofs.specs.Form.{form-law}
use Rattle.timing_proofs.specs.Verdicts.{fault-law}
use Rattle.timing_proofs.specs.Rules.{rule-law}
use Rattle.timing_proofs.specs.Effects.{effect-law}
use Rattle.timing_proofs.specs.Histories.{list_law}
use Rattle.timing_proofs.specs.Series.{power-law}

pub statements : Statements
statements = record {
  form-laws = form-law book.statements;
  fault-laws = fault-law book.statements;
  effect-laws = effect-law book.statements;
  list-laws = list_law book.statements;
  rule-laws = rule-law book.statements;
  power-laws = power-law book.statements;
}
