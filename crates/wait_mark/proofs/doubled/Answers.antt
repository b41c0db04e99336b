use Rattle.wait_mark.proofs.doubled.Goals as goal

pub returns-in-None : goal.returns-in-None
returns-in-None c = simp c.in-None.is

pub returns-in-Out : goal.returns-in-Out
returns-in-Out c = simp c.in-Out.is

pub returns-in-Err : goal.returns-in-Err
returns-in-Err c = simp c.in-Err.is

pub returns-in-OutErr : goal.returns-in-OutErr
returns-in-OutErr c = simp c.in-OutErr.is

pub returns-in-ErrOut : goal.returns-in-ErrOut
returns-in-ErrOut c = simp c.in-ErrOut.is
