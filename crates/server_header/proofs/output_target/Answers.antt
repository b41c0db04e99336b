use Rattle.server_header.proofs.output_target.Goals as goal

pub returns-in-Stdout : goal.returns-in-Stdout
returns-in-Stdout c = simp c.in-Stdout.is

pub returns-in-Stderr : goal.returns-in-Stderr
returns-in-Stderr c = simp c.in-Stderr.is
