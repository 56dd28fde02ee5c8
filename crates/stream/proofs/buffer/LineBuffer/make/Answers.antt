use Rattle.stream.proofs.Hexes.{hex_stands}
use Rattle.stream.proofs.Numerals.{one_numeral}
use Rattle.stream.proofs.buffer.LineBuffer.make.Goals as goal

pub returns-clause-numerals : goal.returns-clause-numerals
returns-clause-numerals c = one_numeral

pub returns-clause-digits : goal.returns-clause-digits
returns-clause-digits c = hex_stands
