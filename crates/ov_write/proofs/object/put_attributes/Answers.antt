-- Each name in its place.
use Rattle.std.proofs.Common.{List, ℕ, false, codes, drop, refl}
use Rattle.std.specs.Prelude.{option_map}
use Rattle.ov_model.specs.declared.netlink.NlPeer.{NlPeer}
use Rattle.ov_write.specs.Text.{Field, num, ipv4, hex, peer_fields, peer_members}
use Rattle.ov_write.proofs.Putting.{puts_on, plain_text}
use Rattle.ov_write.proofs.object.put_attributes.Goals as goal

pub returns : goal.returns
unfolding peer_members
returns c =
    let p : NlPeer = c.args.peer.now in
    let fs : List Field = peer_fields p in
    let last : List ℕ = c.extend_from_slice.new.self.items in
    puts_on (c.args.page.now.items) (c.put_number.new.page.items) (false) (c.in_ok-later.later) (codes "id") (option_map num p.id) (drop 1 fs) last (c.in_ok-later.ensures (plain_text (codes "id") refl)) (
    puts_on (c.put_number.new.page.items) (c.put_number-2.new.page.items) (c.in_ok-later.later) (c.in_ok-later-2.later) (codes "keepalive-interval") (option_map num p.keepalive_interval) (drop 2 fs) last (c.in_ok-later-2.ensures (plain_text (codes "keepalive-interval") refl)) (
    puts_on (c.put_number-2.new.page.items) (c.put_number-3.new.page.items) (c.in_ok-later-2.later) (c.in_ok-later-3.later) (codes "keepalive-timeout") (option_map num p.keepalive_timeout) (drop 3 fs) last (c.in_ok-later-3.ensures (plain_text (codes "keepalive-timeout") refl)) (
    puts_on (c.put_number-3.new.page.items) (c.put_ipv4.new.page.items) (c.in_ok-later-3.later) (c.in_ok-later-4.later) (codes "local-ipv4") (option_map ipv4 p.local_ipv4) (drop 4 fs) last (c.in_ok-later-4.ensures (plain_text (codes "local-ipv4") refl)) (
    puts_on (c.put_ipv4.new.page.items) (c.put_ipv6.new.page.items) (c.in_ok-later-4.later) (c.in_ok-later-5.later) (codes "local-ipv6") (option_map hex p.local_ipv6) (drop 5 fs) last (c.in_ok-later-5.ensures (plain_text (codes "local-ipv6") refl)) (
    puts_on (c.put_ipv6.new.page.items) (c.put_number-4.new.page.items) (c.in_ok-later-5.later) (c.in_ok-later-6.later) (codes "local-port") (option_map num p.local_port) (drop 6 fs) last (c.in_ok-later-6.ensures (plain_text (codes "local-port") refl)) (
    puts_on (c.put_number-4.new.page.items) (c.put_ipv4-2.new.page.items) (c.in_ok-later-6.later) (c.in_ok-later-7.later) (codes "remote-ipv4") (option_map ipv4 p.remote_ipv4) (drop 7 fs) last (c.in_ok-later-7.ensures (plain_text (codes "remote-ipv4") refl)) (
    puts_on (c.put_ipv4-2.new.page.items) (c.put_ipv6-2.new.page.items) (c.in_ok-later-7.later) (c.in_ok-later-8.later) (codes "remote-ipv6") (option_map hex p.remote_ipv6) (drop 8 fs) last (c.in_ok-later-8.ensures (plain_text (codes "remote-ipv6") refl)) (
    puts_on (c.put_ipv6-2.new.page.items) (c.put_number-5.new.page.items) (c.in_ok-later-8.later) (c.in_ok-later-9.later) (codes "remote-ipv6-scope-id") (option_map num p.remote_ipv6_scope_id) (drop 9 fs) last (c.in_ok-later-9.ensures (plain_text (codes "remote-ipv6-scope-id") refl)) (
    puts_on (c.put_number-5.new.page.items) (c.put_number-6.new.page.items) (c.in_ok-later-9.later) (c.in_ok-later-10.later) (codes "remote-port") (option_map num p.remote_port) (drop 10 fs) last (c.in_ok-later-10.ensures (plain_text (codes "remote-port") refl)) (
    puts_on (c.put_number-6.new.page.items) (c.put_number-7.new.page.items) (c.in_ok-later-10.later) (c.in_ok-later-11.later) (codes "socket") (option_map num p.socket) (drop 11 fs) last (c.in_ok-later-11.ensures (plain_text (codes "socket") refl)) (
    puts_on (c.put_number-7.new.page.items) (c.put_number-8.new.page.items) (c.in_ok-later-11.later) (c.in_ok-later-12.later) (codes "socket-netnsid") (option_map num p.socket_netnsid) (drop 12 fs) last (c.in_ok-later-12.ensures (plain_text (codes "socket-netnsid") refl)) (
    puts_on (c.put_number-8.new.page.items) (c.put_ipv4-3.new.page.items) (c.in_ok-later-12.later) (c.in_ok-later-13.later) (codes "vpn-ipv4") (option_map ipv4 p.vpn_ipv4) (drop 13 fs) last (c.in_ok-later-13.ensures (plain_text (codes "vpn-ipv4") refl)) (
    puts_on (c.put_ipv4-3.new.page.items) (c.put_ipv6-3.new.page.items) (c.in_ok-later-13.later) (c.in_ok-_later._later) (codes "vpn-ipv6") (option_map hex p.vpn_ipv6) (drop 14 fs) last (c.in_ok-_later.ensures (plain_text (codes "vpn-ipv6") refl)) (
    c.in_ok-extend_from_slice.ensures.items))))))))))))))
