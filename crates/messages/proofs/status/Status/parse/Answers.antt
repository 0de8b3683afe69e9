use Rattle.messages.proofs.Words.{status_taken}
use Rattle.messages.proofs.status.Status.parse.Goals as goal

pub returns : goal.returns
returns c =
    rw c.from_be_bytes.ensures
    (status_taken _ _ _ _ _ _ _ _ _ _ c.in_ok-version.ensures c.in_ok-identity.ensures.cases c.in_ok-count.ensures.cases c.in_ok-other.ensures c.in_ok-tag.ensures)
