-- A peer or a key that was let go is named by no later entry of the history. Entries name peers and keys by
-- their serials; the ids of commands and datagrams may come again and name the peer that has them then.
use Rattle.std.specs.Prelude.{ℕ, ◌≡◌, ◌<◌, List, [], ◌∷◌, ◌++◌, Some, slice_get}
use Rattle.ov_model.specs.declared.command.Command.TheVariants as command
use Rattle.ov_model.specs.declared.act.Act.{Act}
use Rattle.ov_model.specs.declared.act.Act.TheVariants as act
use Rattle.ov_model.specs.declared.entry.Entry.{Entry}
use Rattle.ov_model.specs.declared.reply.Reply.{Reply}
use Rattle.ov_model.specs.declared.reply.Reply.TheVariants as reply
use Rattle.ov_model.specs.Removals.{times}

-- The peer that an act is about: the one that sent or received, whose key is spent, or that is let go. For the
-- look-up of a peer that was due it takes the reply too: see peer_kept.
abbrev pub peers_in_act : Act → List ℕ
peers_in_act (act.Sent peer inner outer ping) = peer ∷ []
peers_in_act (act.Settle peer from k inner outer) = peer ∷ []
peers_in_act (act.Spend peer key) = peer ∷ []
peers_in_act (act.Released peer) = peer ∷ []
peers_in_act _ = []

-- The peer that was due and is looked up, unless the reply is Skip: since the tick it may have been let go, and
-- then the look-up asks for it in vain.
abbrev pub peer_kept : Act → Reply → List ℕ
peer_kept (act.KeepLook peer) reply.Skip = []
peer_kept (act.KeepLook peer) _ = peer ∷ []
peer_kept _ _ = []

-- The peer that an entry made, by the serial of its reply.
abbrev pub peer_made_by : Act → Reply → List ℕ
peer_made_by (act.Do (command.PeerNew a)) (reply.Made peer) = peer ∷ []
peer_made_by _ _ = []

-- The peers that a reply tells of by their serials: held, removed or let go.
abbrev pub peers_in_reply : Reply → List ℕ
peers_in_reply (reply.Hold h) = h.peer ∷ []
peers_in_reply (reply.Removed peers) = peers
peers_in_reply (reply.Ticked expired due) = expired
peers_in_reply (reply.Released peer) = peer ∷ []
peers_in_reply _ = []

-- The key that an act is about: the one that is spent or let go.
abbrev pub keys_in_act : Act → List ℕ
keys_in_act (act.Spend peer key) = key ∷ []
keys_in_act (act.KeyReleased key) = key ∷ []
keys_in_act _ = []

-- The key that an entry made, by the serial of its reply.
abbrev pub key_made_by : Act → Reply → List ℕ
key_made_by (act.Do (command.KeyNew c)) (reply.Made key) = key ∷ []
key_made_by _ _ = []

-- The key that a reply tells of by its serial: held or let go.
abbrev pub keys_in_reply : Reply → List ℕ
keys_in_reply (reply.Hold h) = h.key ∷ []
keys_in_reply (reply.KeyReleased key) = key ∷ []
keys_in_reply _ = []

-- All peers that an entry names, by its act and by its reply.
abbrev pub peers_named : Entry → List ℕ
peers_named e = peers_in_act e.call.act ++ peer_kept e.call.act e.reply ++ peer_made_by e.call.act e.reply ++ peers_in_reply e.reply

-- All keys that an entry names, by its act and by its reply.
abbrev pub keys_named : Entry → List ℕ
keys_named e = keys_in_act e.call.act ++ key_made_by e.call.act e.reply ++ keys_in_reply e.reply

-- An entry names a peer by its serial.
abbrev pub NamesPeer : ℕ → Entry → Type 0
NamesPeer peer e = 0 < times peer (peers_named e)

-- An entry names a key by its serial.
abbrev pub NamesKey : ℕ → Entry → Type 0
NamesKey key e = 0 < times key (keys_named e)

-- After an entry with this act, no entry of a journal is such a one.
abbrev pub NeverAgain : Act → (Entry → Type 0) → List Entry → Type 0
NeverAgain a IsSuch journal = (i j : ℕ) (e later : Entry) → slice_get journal i ≡ Some e → e.call.act ≡ a → i < j → slice_get journal j ≡ Some later → IsSuch later → ⊥

-- After the entry that let a peer go, no entry names it.
abbrev pub PeersStayReleased : List Entry → Type 0
PeersStayReleased journal = (peer : ℕ) → NeverAgain (act.Released peer) (NamesPeer peer) journal

-- After the entry that let a key go, no entry names it.
abbrev pub KeysStayReleased : List Entry → Type 0
KeysStayReleased journal = (key : ℕ) → NeverAgain (act.KeyReleased key) (NamesKey key) journal
