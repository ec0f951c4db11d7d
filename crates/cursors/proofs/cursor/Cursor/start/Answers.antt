use Rattle.cursors.proofs.Stepping.{whole}
use Rattle.cursors.proofs.cursor.Cursor.start.Goals as goal

pub returns-clause-whole : goal.returns-clause-whole
returns-clause-whole c = whole
