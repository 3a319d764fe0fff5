-- How much was hashed: how many SHA-256 computations (FIPS 180-4) ended, and how many bytes they read.
use Rattle.std.specs.Prelude.{◌≡◌, ℕ, ◌+◌, ◌≤◌, List}
use Rattle.sha2.specs.Hashers.{Holds256}
use Rattle.mvd_count.specs.Counted.{counted}
use Rattle.mvd_digest.specs.declared.digest.CountedHasher.{CountedHasher}
use Rattle.mvd_digest.specs.declared.digest.Hashed.{Hashed}

-- a computation has read just these bytes
abbrev pub Absorbed : CountedHasher → List ℕ → Type 0
Absorbed computation bytes = Holds256 computation.hasher bytes

-- a computation read so many bytes
pub record ReadsBytes (bytes : ℕ) (old new : Hashed) : Type 0 where
  pub reads : new.bytes ≡ counted old.bytes bytes
  pub ends : new.computations ≡ old.computations

-- a computation ended
pub record EndsDigest (old new : Hashed) : Type 0 where
  pub reads : new.bytes ≡ old.bytes
  pub ends : new.computations ≡ counted old.computations 1

-- at most so many computations ended, and at most so many bytes were read; and no count fell
pub record Hashes (computations bytes : ℕ) (old new : Hashed) : Type 0 where
  pub ends : new.computations ≤ old.computations + computations
  pub reads : new.bytes ≤ old.bytes + bytes
  pub least_ends : old.computations ≤ new.computations
  pub least_reads : old.bytes ≤ new.bytes
