use Rattle.plans.proofs.OneSheet.{sheets_are_one}
use Rattle.plans.proofs.ReadBack.{sheet_read_back}
use Rattle.sheets.proofs.Meant.{reads_exactly}
use Rattle.plans.proofs.laws.sheets_stand.Goals as goal

pub returns-clause-numbers : goal.returns-clause-numbers
returns-clause-numbers c = reads_exactly

pub returns-clause-back : goal.returns-clause-back
returns-clause-back c = sheet_read_back

pub returns-clause-one : goal.returns-clause-one
returns-clause-one c = sheets_are_one
