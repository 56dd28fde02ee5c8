use Rattle.writer.proofs.+write.Given as goal

abbrev pub decreases-write : goal.decreases-write
decreases-write l = l.index
