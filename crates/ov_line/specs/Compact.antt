-- The texts of lines as programs mostly write them: no space, the names in ascending order, numbers in
-- decimal. They say what the first look at a line takes for one; which line the bytes are is the grammar's.
use Rattle.std.specs.Prelude.{◌≡◌, ◌≤◌, ℕ, List, ◌++◌, length, codes, decimal, Some, Ok}
use Rattle.serde_json.specs.Data.{Data, string, number, unsigned, object, no_members, member}
use Rattle.ov_line.specs.Grammar.{most_key_bytes}
use Rattle.ov_model.specs.declared.netlink.NlKeyDir.{NlKeyDir}
use Rattle.hex.specs.Hex.{decode_of}

-- A line that sends a packet, and its value.
unfoldable pub tx_text : ℕ → ℕ → List ℕ → List ℕ
tx_text at lane digits = codes "{\"at\":" ++ (decimal at ++ (codes ",\"do\":\"tx\",\"lane\":" ++ (decimal lane ++ (codes ",\"packet\":\"" ++ (digits ++ codes "\"}")))))

-- The value that this text is.
unfoldable pub tx_data : ℕ → ℕ → List ℕ → Data
tx_data at lane digits = object
    (member (codes "at") (number (unsigned at))
    (member (codes "do") (string (codes "tx"))
    (member (codes "lane") (number (unsigned lane))
    (member (codes "packet") (string digits) no_members))))

-- The sender of a datagram, and its value.
abbrev pub from_data : List ℕ → ℕ → Data
from_data addr port = object (member (codes "addr") (string addr) (member (codes "port") (number (unsigned port)) no_members))

-- A line by which a datagram comes, and its value.
unfoldable pub rx_text : ℕ → List ℕ → List ℕ → ℕ → ℕ → List ℕ
rx_text at digits addr port lane = codes "{\"at\":" ++ (decimal at ++ (codes ",\"datagram\":\"" ++ (digits ++ (codes "\",\"do\":\"rx\",\"from\":{\"addr\":\"" ++ (addr ++ (codes "\",\"port\":" ++ (decimal port ++ (codes "},\"lane\":" ++ (decimal lane ++ codes "}")))))))))

-- The value that this text is.
unfoldable pub rx_data : ℕ → List ℕ → List ℕ → ℕ → ℕ → Data
rx_data at digits addr port lane = object
    (member (codes "at") (number (unsigned at))
    (member (codes "datagram") (string digits)
    (member (codes "do") (string (codes "rx"))
    (member (codes "from") (from_data addr port)
    (member (codes "lane") (number (unsigned lane)) no_members)))))

-- The peer of peer-new, and its value.
abbrev pub peer_data : ℕ → List ℕ → ℕ → List ℕ → Data
peer_data id remote port vpn = object
    (member (codes "id") (number (unsigned id))
    (member (codes "remote-ipv4") (string remote)
    (member (codes "remote-port") (number (unsigned port))
    (member (codes "vpn-ipv4") (string vpn) no_members))))

-- A line that makes a peer, and its value.
unfoldable pub new_text : ℕ → ℕ → ℕ → List ℕ → ℕ → List ℕ → List ℕ
new_text at lane id remote port vpn = codes "{\"at\":" ++ (decimal at ++ (codes ",\"do\":\"peer-new\",\"lane\":" ++ (decimal lane ++ (codes ",\"peer\":{\"id\":" ++ (decimal id ++ (codes ",\"remote-ipv4\":\"" ++ (remote ++ (codes "\",\"remote-port\":" ++ (decimal port ++ (codes ",\"vpn-ipv4\":\"" ++ (vpn ++ codes "\"}}")))))))))))

-- The value that this text is.
unfoldable pub new_data : ℕ → ℕ → ℕ → List ℕ → ℕ → List ℕ → Data
new_data at lane id remote port vpn = object
    (member (codes "at") (number (unsigned at))
    (member (codes "do") (string (codes "peer-new"))
    (member (codes "lane") (number (unsigned lane))
    (member (codes "peer") (peer_data id remote port vpn) no_members))))

-- One direction of a key, and its value.
abbrev pub dir_text : List ℕ → List ℕ → List ℕ
dir_text key tail = codes "{\"cipher-key\":\"" ++ (key ++ (codes "\",\"nonce-tail\":\"" ++ (tail ++ codes "\"}")))

-- The value that this text is.
abbrev pub dir_data : List ℕ → List ℕ → Data
dir_data key tail = object (member (codes "cipher-key") (string key) (member (codes "nonce-tail") (string tail) no_members))

-- The key of key-new, and its value: `opening` and `opening_tail` are digits of the direction that decrypts, `sealing`
-- and `sealing_tail` of the one that encrypts.
abbrev pub conf_data : List ℕ → List ℕ → List ℕ → List ℕ → ℕ → ℕ → Data
conf_data opening opening_tail sealing sealing_tail key_id peer = object
    (member (codes "cipher-alg") (string (codes "aes-gcm"))
    (member (codes "decrypt-dir") (dir_data opening opening_tail)
    (member (codes "encrypt-dir") (dir_data sealing sealing_tail)
    (member (codes "key-id") (number (unsigned key_id))
    (member (codes "peer-id") (number (unsigned peer))
    (member (codes "slot") (string (codes "primary")) no_members))))))

-- A line that makes a key, and its value.
unfoldable pub key_text : ℕ → List ℕ → List ℕ → List ℕ → List ℕ → ℕ → ℕ → ℕ → List ℕ
key_text at opening opening_tail sealing sealing_tail key_id peer lane = codes "{\"at\":" ++ (decimal at ++ (codes ",\"do\":\"key-new\",\"keyconf\":{\"cipher-alg\":\"aes-gcm\",\"decrypt-dir\":" ++ (dir_text opening opening_tail
    ++ (codes ",\"encrypt-dir\":" ++ (dir_text sealing sealing_tail ++ (codes ",\"key-id\":" ++ (decimal key_id ++ (codes ",\"peer-id\":" ++ (decimal peer ++ (codes ",\"slot\":\"primary\"},\"lane\":" ++ (decimal lane ++ codes "}")))))))))))

-- The value that this text is.
unfoldable pub key_data : ℕ → List ℕ → List ℕ → List ℕ → List ℕ → ℕ → ℕ → ℕ → Data
key_data at opening opening_tail sealing sealing_tail key_id peer lane = object
    (member (codes "at") (number (unsigned at))
    (member (codes "do") (string (codes "key-new"))
    (member (codes "keyconf") (conf_data opening opening_tail sealing sealing_tail key_id peer)
    (member (codes "lane") (number (unsigned lane)) no_members))))

-- A direction of at most as many bytes as a line may give, by its digits.
pub record IsDirText (key_digits tail_digits : List ℕ) (dir : NlKeyDir) : Type 0 where
  pub key : List ℕ
  pub tail : List ℕ
  pub key_read : decode_of key_digits ≡ Ok key
  pub tail_read : decode_of tail_digits ≡ Ok tail
  pub key_short : length key ≤ most_key_bytes
  pub tail_short : length tail ≤ most_key_bytes
  pub dir_is : dir ≡ record { cipher_key = Some key; nonce_tail = Some tail }
