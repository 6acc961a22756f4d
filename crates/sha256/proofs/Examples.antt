-- The definitions of `specs/` on the standard's examples, by computation.
use mathlib.Core.List.{List, [], ◌∷◌}
use mathlib.Core.Path.{◌≡◌, refl}
use Prim.Native.Nat.{ℕ}
use lib.ListN.{length}
use Rattle.refusals.specs.Told.{done, refused}
use Rattle.sha256.proofs.Padding.{zero_bits}
use Rattle.sha256.specs.Call.{told_of}
use Rattle.compression.specs.Constants.{H0, K}
use Rattle.compression.specs.Block.{T1, T2, W, compress_of, expand_of, sum_of, turn_of, turns_of, word_of}
use Rattle.word32.specs.Operations.{◌⊞◌, Ch, Maj, ROTR, word_at, Σ0, Σ1, σ0, σ1}
use Rattle.sha256.specs.Standard.{block_at, block_count, bytes, bytes_of, bytes_of_words, digest_of, hash_value, pad, padding, zeros}

-- §5.1.1: the message "abc", of 24 bits, is padded with the bit 1 and then 448 - (24 + 1) = 423 zeros
zeros_of_abc : zero_bits 3 ≡ 423
unfolding zeros
zeros_of_abc = refl

-- "abc"
abc : List ℕ
abc = 0x61 ∷ 0x62 ∷ 0x63 ∷ []

-- "abcdbcdecdefdefgefghfghighijhijkijkljklmklmnlmnomnopnopq"
two_blocks : List ℕ
two_blocks =
    0x61 ∷ 0x62 ∷ 0x63 ∷ 0x64 ∷ 0x62 ∷ 0x63 ∷ 0x64 ∷ 0x65 ∷ 0x63 ∷ 0x64 ∷ 0x65 ∷ 0x66 ∷ 0x64 ∷ 0x65 ∷ 0x66 ∷ 0x67 ∷
    0x65 ∷ 0x66 ∷ 0x67 ∷ 0x68 ∷ 0x66 ∷ 0x67 ∷ 0x68 ∷ 0x69 ∷ 0x67 ∷ 0x68 ∷ 0x69 ∷ 0x6a ∷ 0x68 ∷ 0x69 ∷ 0x6a ∷ 0x6b ∷
    0x69 ∷ 0x6a ∷ 0x6b ∷ 0x6c ∷ 0x6a ∷ 0x6b ∷ 0x6c ∷ 0x6d ∷ 0x6b ∷ 0x6c ∷ 0x6d ∷ 0x6e ∷ 0x6c ∷ 0x6d ∷ 0x6e ∷ 0x6f ∷
    0x6d ∷ 0x6e ∷ 0x6f ∷ 0x70 ∷ 0x6e ∷ 0x6f ∷ 0x70 ∷ 0x71 ∷
    []

-- the digests, in eight words each, as the standard prints them
digests :
    (digest_of [] ≡ bytes_of_words (0xe3b0c442 ∷ 0x98fc1c14 ∷ 0x9afbf4c8 ∷ 0x996fb924 ∷ 0x27ae41e4 ∷ 0x649b934c ∷ 0xa495991b ∷ 0x7852b855 ∷ [])) ×
    (digest_of abc ≡ bytes_of_words (0xba7816bf ∷ 0x8f01cfea ∷ 0x414140de ∷ 0x5dae2223 ∷ 0xb00361a3 ∷ 0x96177a9c ∷ 0xb410ff61 ∷ 0xf20015ad ∷ [])) ×
    (digest_of two_blocks ≡ bytes_of_words (0x248d6a61 ∷ 0xd20638b8 ∷ 0xe5c02693 ∷ 0x0c3e6039 ∷ 0xa33ce459 ∷ 0x64ff2167 ∷ 0xf6ecedd4 ∷ 0x19db06c1 ∷ []))
unfolding H0 K T1 T2 W ◌⊞◌ Ch Maj ROTR block_at block_count bytes bytes_of bytes_of_words compress_of digest_of expand_of hash_value pad padding sum_of turn_of turns_of word_at word_of zeros Σ0 Σ1 σ0 σ1 abc two_blocks
digests = (refl, refl, refl)

-- the hash call takes 65,535 bytes, and refuses one more
longest_taken : (m : List ℕ) → length m ≡ 65535 → told_of m ≡ done []
unfolding told_of
longest_taken m e = rw e

one_more_refused : (m : List ℕ) → length m ≡ 65536 → told_of m ≡ refused 5 4 0
unfolding told_of
one_more_refused m e = rw e
