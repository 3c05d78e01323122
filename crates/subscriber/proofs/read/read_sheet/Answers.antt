use Rattle.std.proofs.Common.{rules}
use Rattle.subscriber.proofs.Listing.{sheet_listed}
use Rattle.subscriber.proofs.read.read_sheet.Goals as goal

pub returns-in-Ok-clause-listed : goal.returns-in-Ok-clause-listed
returns-in-Ok-clause-listed c = sheet_listed c.args.text.now c.in-Ok.sheet (search rules)
