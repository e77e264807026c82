-- What the laws say of a legal report.
use Rattle.std.specs.Prelude.{ℕ, ◌≡◌, List, [], Option, Some, None, slice_get}
use Rattle.std.specs.Option.{option_and_then}
use Rattle.ov_aes.specs.Aes.{key_list}
use Rattle.ov_base.specs.declared.address.Addr.{Addr}
use Rattle.ov_base.specs.declared.address.Transport.{Transport}
use Rattle.ov_model.specs.declared.answer.Answer.{Answer}
use Rattle.ov_model.specs.declared.answer.Answer.TheVariants as answer
use Rattle.ov_model.specs.declared.answer.PingOut.{PingOut}
use Rattle.ov_model.specs.declared.answer.PingOutcome.TheVariants as outcome
use Rattle.ov_model.specs.declared.answer.SealedOut.{SealedOut}
use Rattle.ov_model.specs.declared.entry.Entry.{Entry}
use Rattle.ov_model.specs.declared.line.Line.{Line}
use Rattle.ov_model.specs.declared.line.Script.{Script}
use Rattle.ov_model.specs.declared.line.Deed.{Deed}
use Rattle.ov_model.specs.declared.line.Deed.TheVariants as deed
use Rattle.ov_model.specs.declared.reply.HoldView.{HoldView}
use Rattle.ov_model.specs.declared.reply.Reply.TheVariants as reply
use Rattle.ov_model.specs.declared.replay.ReplayEntry.{ReplayEntry}
use Rattle.ov_model.specs.declared.replay.Verdict.TheVariants.{Accept}
use Rattle.ov_model.specs.declared.report.LaneLog.{LaneLog}
use Rattle.ov_model.specs.declared.report.Report.{Report}
use Rattle.ov_model.specs.Tables.{Material}
use Rattle.ov_model.specs.Keys.{key_of, sealed_outs}
use Rattle.ov_model.specs.Legal.{Legal}
use Rattle.ov_model.specs.Via.{via_of}
use Rattle.ov_model.specs.Packets.{datagram, nonce_of, keepalive}

-- What holds of every legal report, whatever its script and the first packet id of the keys.
abbrev pub OfEveryLegal : (Report → Type 0) → Type 0
OfEveryLegal P = (script : Script) (first : ℕ) (report : Report) → Legal script first report → P report

-- What holds of every legal report and the next hops by its script's routes.
abbrev pub OfEveryRouted : ((Addr → Addr) → Report → Type 0) → Type 0
OfEveryRouted P = (script : Script) (first : ℕ) (report : Report) → Legal script first report → P (via_of script.routes) report

-- ---- a line of a report

-- What a line of a lane was asked for.
pub record HasDeed (report : Report) (lane line : ℕ) (what : Deed) : Type 0 where
  pub log : LaneLog
  pub log_is : slice_get report.lanes lane ≡ Some log
  pub its : Line
  pub its_is : slice_get log.lines line ≡ Some its
  pub deed_is : its.deed ≡ what

-- What a line seals: the packet that it was given, or the keepalive message.
abbrev pub packet_sent : Deed → Option (List ℕ)
packet_sent (deed.Tx packet) = Some packet
packet_sent deed.Tick = Some keepalive
packet_sent _ = None

-- A line of a lane seals an inner packet.
pub record Sends (report : Report) (lane line : ℕ) (packet : List ℕ) : Type 0 where
  pub what : Deed
  pub has : HasDeed report lane line what
  pub sends : packet_sent what ≡ Some packet

-- It received a datagram.
abbrev pub Receives : Report → (lane line : ℕ) → Transport → List ℕ → Type 0
Receives report lane line from bytes = HasDeed report lane line (deed.Rx from bytes)

-- An entry of the history was made by a line.
pub record IsEntryOf (report : Report) (lane line n : ℕ) (e : Entry) : Type 0 where
  pub at : slice_get report.journal n ≡ Some e
  pub place : e.place ≡ record { lane = lane; line = line }

-- A line's look-up held a peer and a key of it.
pub record LooksUp (report : Report) (lane line : ℕ) (hold : HoldView) : Type 0 where
  pub n : ℕ
  pub entry : Entry
  pub made : IsEntryOf report lane line n entry
  pub held : entry.reply ≡ reply.Hold hold

-- ---- replay

-- The replay step at a place of a shard.
abbrev pub judged_at : List (List ReplayEntry) → (shard i : ℕ) → Option ReplayEntry
judged_at shards shard i = option_and_then (λ rs. slice_get rs i) (slice_get shards shard)

-- Two accepted replay steps with the same key and the same packet id are one and the same.
abbrev pub AcceptsOnce : List (List ReplayEntry) → Type 0
AcceptsOnce shards = (s t i j : ℕ) (a b : ReplayEntry) → judged_at shards s i ≡ Some a → judged_at shards t j ≡ Some b → a.verdict ≡ Accept → b.verdict ≡ Accept → a.key ≡ b.key → a.id ≡ b.id → (s ≡ t) × (i ≡ j)

-- ---- nonces

-- The answer to a line of a lane.
abbrev pub answer_at : List LaneLog → (lane line : ℕ) → Option Answer
answer_at lanes lane line = option_and_then (λ log. slice_get log.answers line) (slice_get lanes lane)

-- The n-th datagram that the answer to a line of a lane sealed: the one of a packet that was sent, or those of a
-- tick's pings.
abbrev pub sealed_at : List LaneLog → (lane line n : ℕ) → Option SealedOut
sealed_at lanes lane line n = option_and_then (λ a. slice_get (sealed_outs a) n) (answer_at lanes lane line)

-- A line's answer has a sealed datagram as its n-th.
abbrev pub IsSealed : Report → (lane line n : ℕ) → SealedOut → Type 0
IsSealed report lane line n s = sealed_at report.lanes lane line n ≡ Some s

-- A sealed datagram holds the line's packet, for a tick the keepalive message. It was sealed with the key that a
-- look-up of the line held, as the history installed it; its head names the held peer and key; its nonce is of
-- the packet id and that key's nonce tail.
pub record SealedUnder (report : Report) (lane line : ℕ) (s : SealedOut) : Type 0 where
  pub packet : List ℕ
  pub sends : Sends report lane line packet
  pub hold : HoldView
  pub held : LooksUp report lane line hold
  pub key_is : s.key ≡ hold.key
  pub to_is : s.to ≡ hold.to
  pub material : Material
  pub material_is : key_of report.journal hold.key ≡ Some material
  pub datagram_is : s.datagram ≡ datagram hold.id.number hold.key_id.number s.id (key_list material.encrypt.key) material.encrypt.tail packet

-- Each sealed datagram is sealed so.
abbrev pub SealsUnderHeld : Report → Type 0
SealsUnderHeld report = (lane line n : ℕ) (s : SealedOut) → IsSealed report lane line n s → SealedUnder report lane line s

-- Two sealed datagrams with the same bytes of their keys and the same nonce are one and the same.
abbrev pub NoncesDiffer : Report → Type 0
NoncesDiffer report = (lane other line later i j : ℕ) (a b : SealedOut) → IsSealed report lane line i a → IsSealed report other later j b
    → (m n : Material) → key_of report.journal a.key ≡ Some m → key_of report.journal b.key ≡ Some n
    → key_list m.encrypt.key ≡ key_list n.encrypt.key → nonce_of a.id m.encrypt.tail ≡ nonce_of b.id n.encrypt.tail → (lane ≡ other) × (line ≡ later) × (i ≡ j)

-- ---- pings

-- The pings that an answer tells of, in order.
abbrev pub pings_of : Answer → List PingOut
pings_of (answer.Ticked expired pings) = pings
pings_of _ = []

-- The n-th ping that the answer to a line of a lane tells of.
abbrev pub ping_at : List LaneLog → (lane line n : ℕ) → Option PingOut
ping_at lanes lane line n = option_and_then (λ a. slice_get (pings_of a) n) (answer_at lanes lane line)

-- The answer to a line tells that a ping to the peer with a serial was sealed.
abbrev pub IsPinged : Report → (lane line n peer : ℕ) → SealedOut → Type 0
IsPinged report lane line n peer s = ping_at report.lanes lane line n ≡ Some (record { peer = peer; outcome = outcome.Sealed s })

-- A datagram was sealed under a hold of the peer with this serial.
pub record SealedFor (report : Report) (lane line peer : ℕ) (s : SealedOut) : Type 0 where
  pub under : SealedUnder report lane line s
  pub peer_is : under.hold.peer ≡ peer

-- Each sealed ping is for the peer that the answer names with it.
abbrev pub PingsGoToDue : Report → Type 0
PingsGoToDue report = (lane line n peer : ℕ) (s : SealedOut) → IsPinged report lane line n peer s → SealedFor report lane line peer s
