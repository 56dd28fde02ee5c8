use Rattle.worked.proofs.Refused.{just_read, reading_refused}
use Rattle.worked.proofs.reading_examples.Goals as goal

pub returns : goal.returns
returns c = record { read = just_read; refused = reading_refused }
