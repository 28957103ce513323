use Rattle.runs.proofs.ConfigurationLaws.{reached_taken}
use Rattle.runs.proofs.configuration.read_file.Goals as goal
use Rattle.runs.proofs.configuration.read_file.Goals.{else-loop-test, then-loop-test+in_ok-n+then-n-eq0, then-loop-test+in_ok-n+else-n-eq0+then-is_some}

pub loop-preserved : goal.loop-preserved
loop-preserved c = reached_taken _ _ _ c.loop.invariant c.take-reader.ensures

pub returns : goal.returns
returns c =
    elim c.loop-test.branch [
      | else-loop-test w ↦ rw w.reader-is c.loop.invariant
      | then-loop-test+in_ok-n+then-n-eq0 w ↦ rw w.reader-is c.loop.invariant
      | then-loop-test+in_ok-n+else-n-eq0+then-is_some w ↦ rw w.reader-is (reached_taken _ _ _ c.loop.invariant w.take-reader.ensures)
    ]
