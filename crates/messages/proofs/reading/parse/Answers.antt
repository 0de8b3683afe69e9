use Rattle.messages.proofs.Words.{row_taken, close_taken}
use Rattle.messages.proofs.reading.parse.Goals as goal

pub returns-in_ok-as_array-in-Row : goal.returns-in_ok-as_array-in-Row
returns-in_ok-as_array-in-Row c = rw c.in-Row.is (row_taken _ _ c.in_ok-as_array-in-Row.ensures.cases)

pub returns-in_ok-as_tag-in-Close : goal.returns-in_ok-as_tag-in-Close
returns-in_ok-as_tag-in-Close c = rw c.in-Close.is (close_taken _ _ _ _ c.in_ok-version-in-Close.ensures c.in_ok-as_tag-in-Close.ensures)
