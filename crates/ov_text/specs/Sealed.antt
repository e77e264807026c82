-- What was sealed, as JSON: a datagram, and what became of a tick's pings.
use Rattle.std.specs.Prelude.{codes}
use Rattle.serde_json.specs.Data.{Data, string, object, Members, no_members, put}
use Rattle.ov_model.specs.declared.answer.PingOut.{PingOut}
use Rattle.ov_model.specs.declared.answer.PingOutcome.{PingOutcome}
use Rattle.ov_model.specs.declared.answer.PingOutcome.TheVariants as outcome
use Rattle.ov_model.specs.declared.answer.SealedOut.{SealedOut}
use Rattle.ov_text.specs.Pieces.{put_num, put_bytes, one, transport_members}

-- A sealed datagram: where it goes, the serial of its key, its packet id and its bytes.
unfoldable pub sealed_members : SealedOut → Members
sealed_members s =
    put (codes "to") (object (transport_members s.to))
    (put_num (codes "key") s.key
    (put_num (codes "id") s.id
    (put_bytes (codes "datagram") s.datagram no_members)))

-- A sealed datagram, as a JSON object.
unfoldable pub sealed_data : SealedOut → Data
sealed_data s = one (codes "sealed") (object (sealed_members s))

-- What became of a ping: it was sealed, the key was spent, or the peer took none any more.
unfoldable pub outcome_data : PingOutcome → Data
outcome_data (outcome.Sealed s) = sealed_data s
outcome_data outcome.Spent = one (codes "dropped") (string (codes "spent"))
outcome_data outcome.Skip = one (codes "none") (string (codes "skip"))

-- A ping: what became of it, and the serial of its peer.
unfoldable pub ping_data : PingOut → Data
ping_data p = object (put_num (codes "peer") p.peer (put (codes "outcome") (outcome_data p.outcome) no_members))
