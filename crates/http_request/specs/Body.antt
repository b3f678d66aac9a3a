-- Mirrors code: how the body of a request is read.
use Rattle.std.specs.Prelude.{◌≡◌, ◌≤◌, ◌<◌, ◌++◌, ℕ, List, length, take, Option, max}
use Rattle.std.specs.Io.KnownBytes.{Consumes}

-- a text has grown by what was read
pub record ReadsMore (r0 r1 : Option (List ℕ)) (old new : List ℕ) : Type 0 where
  pub more : List ℕ
  pub read : Consumes r0 r1 more
  pub text : new ≡ old ++ more

-- it has grown to that length, or was longer
pub record HasGrownTo (whole : ℕ) (r0 r1 : Option (List ℕ)) (old new : List ℕ) : Type 0 where
  pub grows : ReadsMore r0 r1 old new
  pub long : whole ≤ length new
  pub bounded : length new ≤ max whole (length old)

-- the input ended before that length
pub record EndsBefore (whole : ℕ) (r0 r1 : Option (List ℕ)) (old new : List ℕ) : Type 0 where
  pub grows : ReadsMore r0 r1 old new
  pub short : length new < whole

-- a body of that size was read, which these bytes begin, and no byte more
pub record HasBody (size : ℕ) (r0 r1 : Option (List ℕ)) (begun body : List ℕ) : Type 0 where
  pub more : List ℕ
  pub read : Consumes r0 r1 more
  pub long : size ≤ length (begun ++ more)
  pub bounded : length (begun ++ more) ≤ max size (length begun)
  pub is : body ≡ take size (begun ++ more)

-- the input ended before such a body did
pub record LacksBody (size : ℕ) (r0 r1 : Option (List ℕ)) (begun : List ℕ) : Type 0 where
  pub more : List ℕ
  pub read : Consumes r0 r1 more
  pub short : length (begun ++ more) < size
