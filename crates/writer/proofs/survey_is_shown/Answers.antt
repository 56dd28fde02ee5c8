use Rattle.writer.proofs.Spellings.{readable, shown}
use Rattle.writer.proofs.survey_is_shown.Goals as goal

pub returns : goal.returns
returns g c = λ list n s. record { readable = readable _ list n _ s s.fits; shown = shown _ list n _ s s.fits }
