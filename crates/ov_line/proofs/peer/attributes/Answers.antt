-- An attribute of another kind makes no peer, and those that were found make the peer.
use Rattle.std.proofs.Common.{codes}
use Rattle.serde_json.specs.View.{view}
use Rattle.ov_line.specs.Values.{Has, IsIpv4, IsIpv6, IsNumber, most_number}
use Rattle.ov_line.proofs.Options.{finds_not}
use Rattle.ov_line.proofs.peer.attributes.Goals as goal

pub returns-in_err-number_at : goal.returns-in_err-number_at
returns-in_err-number_at c = finds_not c.from_residual-in_err-number_at.result c.in_err-number_at.field-0.0 (Has (IsNumber most_number) (codes "id") (view c.args.value.now)) _ c.from_residual-in_err-number_at.ensures c.in_err-number_at.ensures (λ p h. (p.id, h.id))

pub returns-in_err-ipv4_at : goal.returns-in_err-ipv4_at
returns-in_err-ipv4_at c = finds_not c.from_residual-in_err-ipv4_at.result c.in_err-ipv4_at.field-0.0 (Has IsIpv4 (codes "remote-ipv4") (view c.args.value.now)) _ c.from_residual-in_err-ipv4_at.ensures c.in_err-ipv4_at.ensures (λ p h. (p.remote_ipv4, h.remote_ipv4))

pub returns-in_err-ipv6_at : goal.returns-in_err-ipv6_at
returns-in_err-ipv6_at c = finds_not c.from_residual-in_err-ipv6_at.result c.in_err-ipv6_at.field-0.0 (Has IsIpv6 (codes "remote-ipv6") (view c.args.value.now)) _ c.from_residual-in_err-ipv6_at.ensures c.in_err-ipv6_at.ensures (λ p h. (p.remote_ipv6, h.remote_ipv6))

pub returns-in_err-number_at-2 : goal.returns-in_err-number_at-2
returns-in_err-number_at-2 c = finds_not c.from_residual-in_err-number_at-2.result c.in_err-number_at-2.field-0.0 (Has (IsNumber most_number) (codes "remote-ipv6-scope-id") (view c.args.value.now)) _ c.from_residual-in_err-number_at-2.ensures c.in_err-number_at-2.ensures (λ p h. (p.remote_ipv6_scope_id, h.remote_ipv6_scope_id))

pub returns-in_err-number_at-3 : goal.returns-in_err-number_at-3
returns-in_err-number_at-3 c = finds_not c.from_residual-in_err-number_at-3.result c.in_err-number_at-3.field-0.0 (Has (IsNumber most_number) (codes "remote-port") (view c.args.value.now)) _ c.from_residual-in_err-number_at-3.ensures c.in_err-number_at-3.ensures (λ p h. (p.remote_port, h.remote_port))

pub returns-in_err-number_at-4 : goal.returns-in_err-number_at-4
returns-in_err-number_at-4 c = finds_not c.from_residual-in_err-number_at-4.result c.in_err-number_at-4.field-0.0 (Has (IsNumber most_number) (codes "socket") (view c.args.value.now)) _ c.from_residual-in_err-number_at-4.ensures c.in_err-number_at-4.ensures (λ p h. (p.socket, h.socket))

pub returns-in_err-number_at-5 : goal.returns-in_err-number_at-5
returns-in_err-number_at-5 c = finds_not c.from_residual-in_err-number_at-5.result c.in_err-number_at-5.field-0.0 (Has (IsNumber most_number) (codes "socket-netnsid") (view c.args.value.now)) _ c.from_residual-in_err-number_at-5.ensures c.in_err-number_at-5.ensures (λ p h. (p.socket_netnsid, h.socket_netnsid))

pub returns-in_err-ipv4_at-2 : goal.returns-in_err-ipv4_at-2
returns-in_err-ipv4_at-2 c = finds_not c.from_residual-in_err-ipv4_at-2.result c.in_err-ipv4_at-2.field-0.0 (Has IsIpv4 (codes "vpn-ipv4") (view c.args.value.now)) _ c.from_residual-in_err-ipv4_at-2.ensures c.in_err-ipv4_at-2.ensures (λ p h. (p.vpn_ipv4, h.vpn_ipv4))

pub returns-in_err-ipv6_at-2 : goal.returns-in_err-ipv6_at-2
returns-in_err-ipv6_at-2 c = finds_not c.from_residual-in_err-ipv6_at-2.result c.in_err-ipv6_at-2.field-0.0 (Has IsIpv6 (codes "vpn-ipv6") (view c.args.value.now)) _ c.from_residual-in_err-ipv6_at-2.ensures c.in_err-ipv6_at-2.ensures (λ p h. (p.vpn_ipv6, h.vpn_ipv6))

pub returns-in_err-ipv4_at-3 : goal.returns-in_err-ipv4_at-3
returns-in_err-ipv4_at-3 c = finds_not c.from_residual-in_err-ipv4_at-3.result c.in_err-ipv4_at-3.field-0.0 (Has IsIpv4 (codes "local-ipv4") (view c.args.value.now)) _ c.from_residual-in_err-ipv4_at-3.ensures c.in_err-ipv4_at-3.ensures (λ p h. (p.local_ipv4, h.local_ipv4))

pub returns-in_err-ipv6_at-3 : goal.returns-in_err-ipv6_at-3
returns-in_err-ipv6_at-3 c = finds_not c.from_residual-in_err-ipv6_at-3.result c.in_err-ipv6_at-3.field-0.0 (Has IsIpv6 (codes "local-ipv6") (view c.args.value.now)) _ c.from_residual-in_err-ipv6_at-3.ensures c.in_err-ipv6_at-3.ensures (λ p h. (p.local_ipv6, h.local_ipv6))

pub returns-in_err-number_at-6 : goal.returns-in_err-number_at-6
returns-in_err-number_at-6 c = finds_not c.from_residual-in_err-number_at-6.result c.in_err-number_at-6.field-0.0 (Has (IsNumber most_number) (codes "local-port") (view c.args.value.now)) _ c.from_residual-in_err-number_at-6.ensures c.in_err-number_at-6.ensures (λ p h. (p.local_port, h.local_port))

pub returns-in_err-number_at-7 : goal.returns-in_err-number_at-7
returns-in_err-number_at-7 c = finds_not c.from_residual-in_err-number_at-7.result c.in_err-number_at-7.field-0.0 (Has (IsNumber most_number) (codes "keepalive-interval") (view c.args.value.now)) _ c.from_residual-in_err-number_at-7.ensures c.in_err-number_at-7.ensures (λ p h. (p.keepalive_interval, h.keepalive_interval))

pub returns-in_err-number_at-8 : goal.returns-in_err-number_at-8
returns-in_err-number_at-8 c = finds_not c.from_residual-in_err-number_at-8.result c.in_err-number_at-8.field-0.0 (Has (IsNumber most_number) (codes "keepalive-timeout") (view c.args.value.now)) _ c.from_residual-in_err-number_at-8.ensures c.in_err-number_at-8.ensures (λ p h. (p.keepalive_timeout, h.keepalive_timeout))

pub returns : goal.returns
returns c = record {
  only = c.in_ok-only.ensures;
  id = c.in_ok-number_at.ensures;
  remote_ipv4 = c.in_ok-ipv4_at.ensures;
  remote_ipv6 = c.in_ok-ipv6_at.ensures;
  remote_ipv6_scope_id = c.in_ok-number_at-2.ensures;
  remote_port = c.in_ok-number_at-3.ensures;
  socket = c.in_ok-number_at-4.ensures;
  socket_netnsid = c.in_ok-number_at-5.ensures;
  vpn_ipv4 = c.in_ok-ipv4_at-2.ensures;
  vpn_ipv6 = c.in_ok-ipv6_at-2.ensures;
  local_ipv4 = c.in_ok-ipv4_at-3.ensures;
  local_ipv6 = c.in_ok-ipv6_at-3.ensures;
  local_port = c.in_ok-number_at-6.ensures;
  keepalive_interval = c.in_ok-number_at-7.ensures;
  keepalive_timeout = c.in_ok-number_at-8.ensures;
}
