use Rattle.std.proofs.Common.{rules, refl, Ok}
use Rattle.tfs_replay.proofs.Runs as runs
use Rattle.tfs_replay.proofs.run.run_record.Goals as goal

pub returns-in-Create : goal.returns-in-Create
returns-in-Create c =
    let told = runs.stands c.create_step.result _ c.create_step.ensures.answer in
    let ran = runs.ran_create _ _ c.args.item c.requires.passed c.requires.inside _ _ _ _ c.answer_agrees.ensures _ _ c.in-Create.is c.bytes_of.ensures told c.create_step.ensures.image in
    record { agrees = ran.agrees; image = ran.image; stays = ran.stays }

pub returns-in-Remove : goal.returns-in-Remove
returns-in-Remove c =
    let told = runs.stands_by _ (λ y. 0) (λ y. (refl, refl, refl)) _ (λ y n p. search rules) _ c.map.result _ c.map.ensures.cases c.remove_step-removed.ensures.answer in
    let ran = runs.ran_remove _ _ c.args.item c.requires.passed c.requires.inside _ _ _ _ c.answer_agrees-in-Remove.ensures _ c.in-Remove.is c.bytes_of-in-Remove.ensures told c.remove_step-removed.ensures.image in
    record { agrees = ran.agrees; image = ran.image; stays = ran.stays }

pub returns-in-Read : goal.returns-in-Read
returns-in-Read c =
    let ran = runs.ran_read c.args.image.now _ c.args.item c.requires.passed c.requires.inside _ _ _ _ c.read_agrees.ensures _ _ _ c.in-Read.is c.bytes_of-in-Read.ensures c.wanted_of-wanted.ensures c.compare_step.ensures.refusal c.compare_step.ensures.same in
    record { agrees = ran.agrees; image = ran.image; stays = ran.stays }

pub returns-in-Write : goal.returns-in-Write
returns-in-Write c =
    let told = runs.stands_by _ (λ y. y.count) (λ y. (refl, refl, refl)) _ (λ y n p. search rules) _ c.map-in-Write.result _ c.map-in-Write.ensures.cases c.write_step-written.ensures.answer in
    let ran = runs.ran_write _ _ c.args.item c.requires.passed c.requires.inside _ _ _ _ c.answer_agrees-in-Write.ensures _ _ _ _ c.in-Write.is c.bytes_of-in-Write.ensures c.bytes_of-in-Write-2.ensures told c.write_step-written.ensures.image in
    record { agrees = ran.agrees; image = ran.image; stays = ran.stays }

pub returns-in-Free : goal.returns-in-Free
returns-in-Free c =
    let told = runs.stands (Ok c.free_step.result) _ c.free_step.ensures in
    let ran = runs.ran_count c.args.image.now _ c.args.item c.requires.passed c.requires.inside (Ok c.free_step.result) _ c.args.image.now c.args.image.now c.answer_agrees-in-Free.ensures c.in-Free.is told refl in
    record { agrees = ran.agrees; image = ran.image; stays = ran.stays }
