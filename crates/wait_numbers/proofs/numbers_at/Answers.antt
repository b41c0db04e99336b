use Rattle.wait_numbers.proofs.numbers_at.Goals as goal

pub returns : goal.returns
returns c = ((λ h. rw (c.count_at-count.ensures.0 h, c.front_at-front.ensures, c.is_leaving-last.ensures, c.status_at-status.ensures h)), c.count_at-count.ensures.1)
