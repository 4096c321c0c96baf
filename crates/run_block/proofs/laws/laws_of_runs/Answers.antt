use Rattle.run_block.proofs.FormLaws.{bytes_are_read, read_bytes_are_of_run}
use Rattle.run_block.proofs.laws.laws_of_runs.Goals as goal

pub returns-clause-read : goal.returns-clause-read
returns-clause-read c = bytes_are_read

pub returns-clause-back : goal.returns-clause-back
returns-clause-back c = read_bytes_are_of_run
