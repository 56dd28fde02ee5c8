use Rattle.sheet.proofs.numbered.NumberedRows.+expression.Given as goal

abbrev pub decreases-expression : goal.decreases-expression
decreases-expression l = l.e
