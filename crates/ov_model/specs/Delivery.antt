-- When a received datagram's inner packet is delivered, in the words of the report alone.
use Rattle.std.specs.Prelude.{ℕ, ◌≡◌, ◌↔◌, List, take, Some}
use Rattle.ov_base.specs.declared.address.Addr.{Addr}
use Rattle.ov_base.specs.declared.address.Transport.{Transport}
use Rattle.ov_model.specs.declared.ident.PeerId.{PeerId}
use Rattle.ov_model.specs.declared.act.Act.{Act}
use Rattle.ov_model.specs.declared.act.Act.TheVariants as act
use Rattle.ov_model.specs.declared.entry.Entry.{Entry}
use Rattle.ov_model.specs.declared.reply.HoldView.{HoldView}
use Rattle.ov_model.specs.declared.replay.ReplayEntry.{ReplayEntry}
use Rattle.ov_model.specs.declared.replay.Verdict.TheVariants.{Accept}
use Rattle.ov_model.specs.declared.answer.Answer.{Answer}
use Rattle.ov_model.specs.declared.answer.Answer.TheVariants.{Delivered}
use Rattle.ov_model.specs.declared.report.Report.{Report}
use Rattle.ov_model.specs.Tables.{Peer, Table, Material, empty_table, by_vpn}
use Rattle.ov_model.specs.Packets.{from_source, kind_of, opened, packet_id_of}
use Rattle.ov_model.specs.Runs.{table_after}
use Rattle.ov_model.specs.Keys.{key_of}
use Rattle.ov_model.specs.Laws.{Receives, IsEntryOf, LooksUp, judged_at, answer_at}

-- A line received some datagram.
pub record IsReceived (report : Report) (lane line : ℕ) : Type 0 where
  pub from : Transport
  pub bytes : List ℕ
  pub receives : Receives report lane line from bytes

-- An act settles a packet of a peer.
abbrev pub IsSettleOf : ℕ → Act → Type 0
IsSettleOf peer (act.Settle settled from k inner outer) = settled ≡ peer
IsSettleOf peer _ = ⊥

-- The table before the n-th entry of a history.
abbrev pub table_before : List Entry → ℕ → Table
table_before journal n = table_after empty_table (take n journal)

-- A line's datagram is delivered as a packet of the peer with an id.
pub record Delivers (via : Addr → Addr) (report : Report) (lane line : ℕ) (bytes : List ℕ) (id : PeerId) (packet : List ℕ) : Type 0 where
  -- The line's look-up held that peer and a key of it.
  pub hold : HoldView
  pub held : LooksUp report lane line hold
  pub id_is : hold.id ≡ id
  -- The tag verifies under that key, and this is what the datagram opens to.
  pub material : Material
  pub material_is : key_of report.journal hold.key ≡ Some material
  pub opens : opened material.decrypt bytes ≡ Some packet
  -- The line's replay step accepted the datagram's packet id under that key.
  pub shard : ℕ
  pub place : ℕ
  pub replay : ReplayEntry
  pub judged : judged_at report.shards shard place ≡ Some replay
  pub judged_by : replay.place ≡ record { lane = lane; line = line }
  pub key_is : replay.key ≡ hold.key
  pub packet_id_is : replay.id ≡ packet_id_of bytes
  pub fresh : replay.verdict ≡ Accept
  -- When the packet was settled as one of that peer, the live peer with the VPN address that is the next hop of
  -- its source was the one that was held.
  pub settle : ℕ
  pub settle_entry : Entry
  pub settled : IsEntryOf report lane line settle settle_entry
  pub settles : IsSettleOf hold.peer settle_entry.call.act
  pub source : Addr
  pub source_is : kind_of packet ≡ from_source source
  pub owner : Peer
  pub owner_is : by_vpn (via source) (table_before report.journal settle).live ≡ Some owner
  pub owns : owner.serial ≡ hold.peer

-- An answered line that received a datagram is answered with a packet exactly where it delivers it.
abbrev pub DeliversExactly : (Addr → Addr) → Report → Type 0
DeliversExactly via report = (lane line : ℕ) (from : Transport) (bytes : List ℕ) (a : Answer) → Receives report lane line from bytes → answer_at report.lanes lane line ≡ Some a
    → (id : PeerId) (packet : List ℕ) → (a ≡ Delivered id packet) ↔ Delivers via report lane line bytes id packet

-- No line is answered with a packet but one that received a datagram.
abbrev pub DeliversReceived : Report → Type 0
DeliversReceived report = (lane line : ℕ) (id : PeerId) (packet : List ℕ) → answer_at report.lanes lane line ≡ Some (Delivered id packet) → IsReceived report lane line

-- A line received a datagram with a packet id, held a key, and was answered with a packet.
pub record DeliveredUnder (report : Report) (lane line key packet_id : ℕ) : Type 0 where
  pub from : Transport
  pub bytes : List ℕ
  pub receives : Receives report lane line from bytes
  pub packet_id_is : packet_id_of bytes ≡ packet_id
  pub hold : HoldView
  pub held : LooksUp report lane line hold
  pub key_is : hold.key ≡ key
  pub id : PeerId
  pub packet : List ℕ
  pub answered : answer_at report.lanes lane line ≡ Some (Delivered id packet)

-- Under a key a datagram, and any other with its packet id, is delivered at most once.
abbrev pub DeliversOnce : Report → Type 0
DeliversOnce report = (key packet_id lane line other later : ℕ) → DeliveredUnder report lane line key packet_id → DeliveredUnder report other later key packet_id → (lane ≡ other) × (line ≡ later)
