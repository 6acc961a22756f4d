-- What is asked of the rest of a body, behind its numbers: residues, permutations, unused bits (document 01, "Frames").
use Rattle.std.specs.Prelude.{Bool, true, List, ℕ, ◌+◌, ◌*◌, ltb, length, get_or}
use Rattle.refusals.specs.Number.{VALUE, PERM}
use Rattle.refusals.specs.Buffer.{PUBLIC}
use Rattle.refusals.specs.Told.{Told, fine, first_below, demand}
use Rattle.algebra.specs.Lists.{stretch}
use Rattle.algebra.specs.Residues.{modulus}
use Rattle.algebra.specs.Permutations.{is_perm}
use Rattle.packed_bits.specs.PackedBits.{unused_clear}
use Rattle.kinds.specs.declared.Kind.{Kind}
use Rattle.kinds.specs.declared.Kind.TheVariants.{System, Public, Secret, Commitments, Challenges, Answers, Bits, Openings}
use Rattle.kinds.specs.Kinds.{table}

-- residues, the first of them at the offset `at`: VALUE at the first above 250
abbrev pub residue_at : ℕ → ℕ → List ℕ → ℕ → Told
residue_at b at l j = demand (ltb (get_or l j 0) modulus) VALUE b (at + j)

unfoldable pub values : ℕ → ℕ → List ℕ → Told
values b at l = first_below (length l) (residue_at b at l)

-- what is asked of a public vector: its range
abbrev pub public_vector : ℕ → List ℕ → Told
public_vector at v = values PUBLIC at v

-- permutations of n, one after the other: PERM at the first byte of the first that is none
abbrev pub permutation_at : ℕ → ℕ → ℕ → List ℕ → ℕ → Told
permutation_at b n at l k = demand (is_perm n (stretch n k l)) PERM b (at + k * n)

unfoldable pub permutations : ℕ → ℕ → ℕ → ℕ → List ℕ → Told
permutations b n at count l = first_below count (permutation_at b n at l)

-- the rest of a body with the numbers a and b, whose first byte is at the offset `at`
abbrev pub content : Kind → ℕ → ℕ → ℕ → List ℕ → Told
content System a b at rest = values (table System).buffer at rest
content Public a b at rest = public_vector at rest
content Secret a b at rest = permutations (table Secret).buffer a at 1 rest
content Commitments a b at rest = fine
content Challenges a b at rest = values (table Challenges).buffer at rest
content Answers a b at rest = values (table Answers).buffer at rest
content Bits a b at rest = fine
content Openings a b at rest = permutations (table Openings).buffer a at b rest

-- in the bits of N rounds no unused bit is set
abbrev pub spare_clear : Kind → ℕ → List ℕ → Bool
spare_clear System N rest = true
spare_clear Public N rest = true
spare_clear Secret N rest = true
spare_clear Commitments N rest = true
spare_clear Challenges N rest = true
spare_clear Answers N rest = true
spare_clear Bits N rest = unused_clear N rest
spare_clear Openings N rest = true
