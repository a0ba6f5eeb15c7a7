use Rattle.tfs_trace.proofs.Numbers.{kind_one}
use Rattle.tfs_trace.proofs.Cursor.call.Goals as goal

pub returns-in-Create-clause-fits : goal.returns-in-Create-clause-fits
returns-in-Create-clause-fits c =
    let one = kind_one c.args.self.trace.now c.args.self.at c.in_ok-number.number c.in_ok-number.cursor.at c.in_ok-ok.field-0 c.try_from.result c.in_ok-number.ensures.value c.try_from.ensures c.in_ok-ok.ensures.value in
    rw (c.in_ok-number.ensures.trace, one) at c.create.ensures.fits

pub returns-in-Remove-clause-fits : goal.returns-in-Remove-clause-fits
returns-in-Remove-clause-fits c =
    let one = kind_one c.args.self.trace.now c.args.self.at c.in_ok-number.number c.in_ok-number.cursor.at c.in_ok-ok.field-0 c.try_from.result c.in_ok-number.ensures.value c.try_from.ensures c.in_ok-ok.ensures.value in
    rw (c.in_ok-number.ensures.trace, one) at c.remove.ensures.fits

pub returns-in-Read-clause-fits : goal.returns-in-Read-clause-fits
returns-in-Read-clause-fits c =
    let one = kind_one c.args.self.trace.now c.args.self.at c.in_ok-number.number c.in_ok-number.cursor.at c.in_ok-ok.field-0 c.try_from.result c.in_ok-number.ensures.value c.try_from.ensures c.in_ok-ok.ensures.value in
    rw (c.in_ok-number.ensures.trace, one) at c.read.ensures.fits

pub returns-in-Write-clause-fits : goal.returns-in-Write-clause-fits
returns-in-Write-clause-fits c =
    let one = kind_one c.args.self.trace.now c.args.self.at c.in_ok-number.number c.in_ok-number.cursor.at c.in_ok-ok.field-0 c.try_from.result c.in_ok-number.ensures.value c.try_from.ensures c.in_ok-ok.ensures.value in
    rw (c.in_ok-number.ensures.trace, one) at c.write.ensures.fits
