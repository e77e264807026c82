-- The worked examples, by computing from the definitions.
use Rattle.std.proofs.Common.{ℕ, ◌≡◌, ◌≤◌, ◌∙◌, List, [], ◌∷◌, refl, sym, ap, arith, true, false, ◌==◌}
use Rattle.std.specs.Prelude.{Option, Some, None, nat_lt}
use mathlib.Core.Logic.{dite}
use native.Mathlib.Decide.{dec_le}
use Rattle.std.proofs.lemmas.Bool.{eq-eqb}
use Rattle.ov_aes.specs.Field.{product, remainder, times, inverse, power_of_x}
use Rattle.ov_aes.specs.SBox.{affine_bit, affine, sub_byte, sub_bytes}
use Rattle.ov_aes.specs.KeySchedule.{key_words, changed_word, schedule, key_schedule}
use Rattle.ov_aes.specs.Cipher.{shift_rows, mix_column, mix_columns, after_round, cipher, aes}
use Rattle.ov_ghash.specs.Polynomial.{add, plus as ghash_plus, scaled, product as ghash_product, overflow, raised, remainder as ghash_remainder, times as ghash_times, power}
use Rattle.ov_ghash.specs.Block.{number_of, bits, number, polynomial, block_of, sum_of_powers, ghash}
use Rattle.ov_gcm.specs.Gcm.{inc32, counter, stream, crypted, padded_blocks, lengths_block, hash_key, tag_of, seal_text, plain}
use Rattle.ov_model.specs.declared.ident.PeerId.{PeerId}
use Rattle.ov_model.specs.declared.ident.KeyId.{KeyId}
use Rattle.ov_model.specs.Checked.{checked}
use Rattle.ov_model.specs.Ident.{peer_id, key_id}
use Rattle.ov_model.specs.Packets.{datagram, opened, keepalive}
use Rattle.ov_model.specs.Replay.{before_gap, floor_of, verdict_of}
use Rattle.ov_model.specs.Step.{peer_new, peer_set, peer_get, peer_dump, key_get, key_swap, key_del, tick, down, tx_look, rx_look, keep_look, settle}
use Rattle.ov_model.specs.Tables.{Key}
use Rattle.ov_model.proofs.PeerIds.{peer_id_of}
use Rattle.ov_model.specs.Examples.{WindowExamples, DatagramExamples, InnerExamples, MessageExamples, NewExamples, SetExamples, SlotExamples, DumpExamples, LookExamples, TickExamples, DownExamples, KeepExamples, FloatExamples, IdExamples, ViaExamples, RouteExample}

pub window_examples : WindowExamples
unfolding before_gap floor_of verdict_of
window_examples = record { first = refl; zero_id = refl; above = refl; again = refl; within = refl; past = refl; before_gap = refl; after_gap = refl; no_gap = refl; gap = refl; over_the_gap = refl }

-- The parts of the datagram: the ciphertext, its tag, and the tag that it would have under the next packet id.
abbrev cipher_bytes : List ℕ
cipher_bytes = 0x73 ∷ 0x1b ∷ 0xde ∷ 0xd8 ∷ 0x31 ∷ 0x9e ∷ 0x73 ∷ 0x14 ∷ 0x91 ∷ 0x13 ∷ 0xff ∷ 0xb0 ∷ 0x96 ∷ 0xc0 ∷ 0x20 ∷ 0xa9 ∷ []

text_is : seal_text (0 ∷ 1 ∷ 2 ∷ 3 ∷ 4 ∷ 5 ∷ 6 ∷ 7 ∷ 8 ∷ 9 ∷ 10 ∷ 11 ∷ 12 ∷ 13 ∷ 14 ∷ 15 ∷ []) (0 ∷ 0 ∷ 1 ∷ 0 ∷ 16 ∷ 17 ∷ 18 ∷ 19 ∷ 20 ∷ 21 ∷ 22 ∷ 23 ∷ []) (74 ∷ 0 ∷ 1 ∷ 2 ∷ 0 ∷ 0 ∷ 1 ∷ 0 ∷ []) keepalive ≡ cipher_bytes
unfolding product remainder times inverse power_of_x affine_bit affine sub_byte sub_bytes key_words changed_word schedule key_schedule shift_rows mix_column mix_columns after_round cipher aes add ghash_plus scaled ghash_product overflow raised ghash_remainder ghash_times power number_of bits number polynomial block_of sum_of_powers ghash inc32 counter stream crypted padded_blocks lengths_block hash_key tag_of
text_is = refl

tag_is : tag_of (0 ∷ 1 ∷ 2 ∷ 3 ∷ 4 ∷ 5 ∷ 6 ∷ 7 ∷ 8 ∷ 9 ∷ 10 ∷ 11 ∷ 12 ∷ 13 ∷ 14 ∷ 15 ∷ []) (0 ∷ 0 ∷ 1 ∷ 0 ∷ 16 ∷ 17 ∷ 18 ∷ 19 ∷ 20 ∷ 21 ∷ 22 ∷ 23 ∷ []) (74 ∷ 0 ∷ 1 ∷ 2 ∷ 0 ∷ 0 ∷ 1 ∷ 0 ∷ []) cipher_bytes ≡ 0x8d ∷ 0x83 ∷ 0xd8 ∷ 0x6d ∷ 0x13 ∷ 0xf2 ∷ 0x9a ∷ 0xa2 ∷ 0x55 ∷ 0xdd ∷ 0x17 ∷ 0xa0 ∷ 0xac ∷ 0x11 ∷ 0x0c ∷ 0x00 ∷ []
unfolding product remainder times inverse power_of_x affine_bit affine sub_byte sub_bytes key_words changed_word schedule key_schedule shift_rows mix_column mix_columns after_round cipher aes add ghash_plus scaled ghash_product overflow raised ghash_remainder ghash_times power number_of bits number polynomial block_of sum_of_powers ghash inc32 counter stream crypted padded_blocks lengths_block hash_key tag_of
tag_is = refl

plain_is : plain (0 ∷ 1 ∷ 2 ∷ 3 ∷ 4 ∷ 5 ∷ 6 ∷ 7 ∷ 8 ∷ 9 ∷ 10 ∷ 11 ∷ 12 ∷ 13 ∷ 14 ∷ 15 ∷ []) (0 ∷ 0 ∷ 1 ∷ 0 ∷ 16 ∷ 17 ∷ 18 ∷ 19 ∷ 20 ∷ 21 ∷ 22 ∷ 23 ∷ []) cipher_bytes ≡ keepalive
unfolding product remainder times inverse power_of_x affine_bit affine sub_byte sub_bytes key_words changed_word schedule key_schedule shift_rows mix_column mix_columns after_round cipher aes add ghash_plus scaled ghash_product overflow raised ghash_remainder ghash_times power number_of bits number polynomial block_of sum_of_powers ghash inc32 counter stream crypted padded_blocks lengths_block hash_key tag_of
plain_is = refl

next_tag_is : tag_of (0 ∷ 1 ∷ 2 ∷ 3 ∷ 4 ∷ 5 ∷ 6 ∷ 7 ∷ 8 ∷ 9 ∷ 10 ∷ 11 ∷ 12 ∷ 13 ∷ 14 ∷ 15 ∷ []) (0 ∷ 0 ∷ 1 ∷ 1 ∷ 16 ∷ 17 ∷ 18 ∷ 19 ∷ 20 ∷ 21 ∷ 22 ∷ 23 ∷ []) (74 ∷ 0 ∷ 1 ∷ 2 ∷ 0 ∷ 0 ∷ 1 ∷ 1 ∷ []) cipher_bytes ≡ 0x06 ∷ 0x64 ∷ 0x25 ∷ 0x45 ∷ 0xe9 ∷ 0x39 ∷ 0x69 ∷ 0x4d ∷ 0x4a ∷ 0x5b ∷ 0x5c ∷ 0x7e ∷ 0x1e ∷ 0xed ∷ 0x3f ∷ 0xe2 ∷ []
unfolding product remainder times inverse power_of_x affine_bit affine sub_byte sub_bytes key_words changed_word schedule key_schedule shift_rows mix_column mix_columns after_round cipher aes add ghash_plus scaled ghash_product overflow raised ghash_remainder ghash_times power number_of bits number polynomial block_of sum_of_powers ghash inc32 counter stream crypted padded_blocks lengths_block hash_key tag_of
next_tag_is = refl

pub datagram_examples : DatagramExamples
unfolding datagram opened
datagram_examples = record {
  head = refl;
  first_version = refl;
  of_control = refl;
  cut = refl;
  no_tag = refl;
  sealed = rw (text_is, tag_is) refl;
  opens = rw (tag_is, plain_is) refl;
  wrong_tag = rw tag_is refl;
  wrong_id = rw next_tag_is refl;
}

pub inner_examples : InnerExamples
inner_examples = record { of_v4 = refl; of_v6 = refl; short_v4 = refl; short_v6 = refl; message = refl; of_ping = refl }

pub message_examples : (id : PeerId) (key : KeyId) → peer_id 5 ≡ Some id → key_id 2 ≡ Some key → MessageExamples id key
unfolding checked
message_examples id key is key_is = record {
  peer_new = rw is refl;
  peer_get = rw is refl;
  peer_del = rw is refl;
  peer_set = rw is refl;
  peer_dump = refl;
  key_get = rw is refl;
  key_swap = rw is refl;
  key_del = rw is refl;
  key_new = rw (is, key_is) refl;
  no_id = refl;
  two_remotes = rw is refl;
  no_address = rw is refl;
  port_0 = rw is refl;
  half_keepalive = rw is refl;
  set_port_0 = rw is refl;
  no_slot = rw is refl;
  no_slot_to_empty = rw is refl;
  no_peer = refl;
  no_key = refl;
  short_key = rw (is, key_is) refl;
  none_cipher = rw (is, key_is) refl;
  other_cipher = rw (is, key_is) refl;
  short_key_first = rw (is, key_is) refl;
}

pub new_examples : (id other : PeerId) → (id.number == other.number) ≡ false → NewExamples id other
unfolding peer_new
new_examples id other differ = record {
  no_remote = refl;
  no_vpn = refl;
  id_taken = rw (eq-eqb id.number id.number refl) refl;
  vpn_taken = rw differ refl;
  remote_taken = rw differ refl;
  no_space = rw differ refl;
  last_one = rw differ refl;
}

pub set_examples : (id other : PeerId) (k : Key) → (id.number == other.number) ≡ false → SetExamples id other k
unfolding peer_set
set_examples id other k differ =
    let own = eq-eqb id.number id.number refl in
    let second = eq-eqb other.number other.number refl in
    record {
      vpn_taken = rw own refl;
      remote_taken = rw own refl;
      by_the_second = rw (differ, second) refl;
      refused_stays = rw own refl;
      nobody = refl;
      own = rw own refl;
      own_stays = rw own refl;
      given = rw own refl;
      keepalive = rw own refl;
    }

pub slot_examples : (id : PeerId) (k l : Key) → SlotExamples id k l
unfolding key_get key_swap key_del tx_look
slot_examples id k l =
    let own = eq-eqb id.number id.number refl in
    record {
      swap = rw own refl;
      no_key = rw own refl;
      swap_both = rw own refl;
      swap_takes_none = rw own refl;
      get = rw own refl;
      get_empty = rw own refl;
      del = rw own refl;
      del_leaves = rw own refl;
      del_takes = rw own refl;
      del_retires = rw own refl;
      del_empty = rw own refl;
      del_empty_takes = rw own refl;
      swap_nobody = refl;
      get_nobody = refl;
      del_nobody = refl;
    }

pub dump_examples : (id other : PeerId) → id.number ≡ 5 → other.number ≡ 6 → DumpExamples id other
unfolding peer_dump
dump_examples id other five six =
    let below : nat_lt id.number other.number ≡ true = rw (five, six) refl in
    let above : nat_lt other.number id.number ≡ false = rw (five, six) refl in
    record { none = refl; as_made = rw below refl; other_way = rw above refl }

pub look_examples : (id : PeerId) (k l : Key) → (id.number == 16777215) ≡ false → (k.key_id.number == l.key_id.number) ≡ false → LookExamples id k l
unfolding tx_look rx_look peer_get
look_examples id k l defined differ = record {
  tx = refl;
  rx = rw (defined, eq-eqb id.number id.number refl, differ, eq-eqb l.key_id.number l.key_id.number refl) refl;
  nobody = refl;
  no_key = refl;
  earlier = refl;
  later = refl;
}

pub tick_examples : (id other : PeerId) (k : Key) → id.number ≡ 5 → other.number ≡ 6 → TickExamples id other k
unfolding tick
tick_examples id other k five six =
    let above : nat_lt other.number id.number ≡ false = rw (five, six) refl in
    record {
      due = refl;
      not_due = refl;
      expired = refl;
      not_expired = refl;
      last_ping = refl;
      no_ping = refl;
      no_timeout = refl;
      no_interval = refl;
      no_primary = refl;
      reply_is = rw above refl;
      left = refl;
      dying = rw above refl;
      noted = rw above refl;
      both_due = rw above refl;
    }

pub down_examples : (id other : PeerId) (k : Key) → id.number ≡ 5 → other.number ≡ 6 → DownExamples id other k
unfolding down keep_look
down_examples id other k five six =
    let below : nat_lt id.number other.number ≡ true = rw (five, six) refl in
    let above : nat_lt other.number id.number ≡ false = rw (five, six) refl in
    record {
      none = refl;
      as_made = rw below refl;
      other_way = rw above refl;
      left = refl;
      dying = rw below refl;
      taken = rw below refl;
      noted = rw below refl;
      skipped = refl;
    }

pub keep_examples : (id : PeerId) (k : Key) → KeepExamples id k
unfolding keep_look
keep_examples id k = record { held = refl; no_primary = refl; nobody = refl }

pub float_examples : (id other : PeerId) → FloatExamples id other
unfolding settle
float_examples id other = record { moves = refl; taken = refl; own = refl; other_port = refl; not_owner = refl; removed = refl }

past_greatest : peer_id 16777216 ≡ None
past_greatest = elim (dec_le 16777216 16777215) as (λ d. ◌≡◌ {A = Option PeerId} (dite d (λ k. Some (record { number = 16777216; in_range = k })) (λ _. None)) None) [ yes k ↦ absurd (omega (arith, k)) | no k ↦ refl ]

past_greatest_key : key_id 8 ≡ None
past_greatest_key = elim (dec_le 8 7) as (λ d. ◌≡◌ {A = Option KeyId} (dite d (λ k. Some (record { number = 8; in_range = k })) (λ _. None)) None) [ yes k ↦ absurd (omega (arith, k)) | no k ↦ refl ]

five : (id : PeerId) → peer_id 5 ≡ Some id → id.number ≡ 5
five id is =
    let within : 5 ≤ 16777215 = omega arith in
    let whole : PeerId = record { number = 5; in_range = within } in
    let same : whole ≡ id = (let e : Some whole ≡ Some id = peer_id_of 5 within ∙ is in cc) in
    sym (ap (λ (i : PeerId). i.number) same)

pub id_examples : IdExamples
id_examples = record { five = five; no_25_bits = past_greatest; no_4_bits = past_greatest_key }

pub via_examples : ViaExamples
via_examples = record {
  no_routes = refl;
  one = refl;
  elsewhere = refl;
  long_first = refl;
  long_last = refl;
  short_alone = refl;
  later = refl;
  hop = refl;
  hop_itself = refl;
  all = refl;
  other_family = refl;
  past = refl;
  last_bit = refl;
  next_bit = refl;
  whole = refl;
  too_long = refl;
  of_v6 = refl;
  not_v6 = refl;
  whole_v6 = refl;
  too_long_v6 = refl;
}

pub route_example : (id : PeerId) (k : Key) → RouteExample id k
unfolding tx_look
route_example id k = record { looked_up = refl; held = refl; no_peer = refl; kind = refl; delivered = refl; not_owner = refl }
