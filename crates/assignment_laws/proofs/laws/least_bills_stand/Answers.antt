use Rattle.assignment_laws.proofs.LeastBills.{least_bills}
use Rattle.assignment_laws.proofs.laws.least_bills_stand.Goals as goal

pub returns-clause-law : goal.returns-clause-law
returns-clause-law c = least_bills
