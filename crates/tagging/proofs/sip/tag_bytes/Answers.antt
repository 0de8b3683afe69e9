use Rattle.std.proofs.Common.{refl, ap, ◌∙◌}
use Rattle.tagging.specs.Sip.{sip_tag, sip_hash, absorbed, absorbs, finished, sip_round}
use Rattle.tagging.specs.Words.{low_first, word_bytes}
use Rattle.tagging.proofs.Absorbing.{bytes_of_word}
use Rattle.tagging.proofs.sip.tag_bytes.Goals as goal

pub returns-clause-tag : goal.returns-clause-tag
unfolding sip_tag
returns-clause-tag c = c.to_le_bytes.ensures ∙ bytes_of_word c.hash.result ∙ ap word_bytes c.hash.ensures

pub returns-clause-example : goal.returns-clause-example
unfolding sip_hash absorbed absorbs finished sip_round low_first
returns-clause-example c = refl
