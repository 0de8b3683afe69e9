-- The worked example of the SipHash paper. Assumes nothing.
use Rattle.std.specs.Prelude.{◌≡◌}
use Rattle.std.specs.List.{range_with_len}
use Rattle.tagging.specs.Sip.{sip_hash}

-- The key 0 to 15, the text 0 to 14.
abbrev pub SipExample : Type 0
SipExample = sip_hash (range_with_len 0 16) (range_with_len 0 15) ≡ 0xa129ca6149be45e5
