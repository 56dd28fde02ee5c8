use Rattle.worked.proofs.Refused.{sheets_refused, not_sound}
use Rattle.worked.proofs.sheet_examples.Goals as goal

pub returns : goal.returns
returns c = record { refused = sheets_refused; unsound = not_sound }
