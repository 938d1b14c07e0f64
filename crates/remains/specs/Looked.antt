-- What the code looks at of a spoiled file: no more blocks than a file may have. The same is kept of them as of all (`Looked.antt` of proofs).
use Rattle.std.specs.Prelude.{ℕ, min, List}
use Rattle.job.specs.declared.Limits.{Limits}
use Rattle.job.specs.File.{block_count, payloads}
use Rattle.remains.specs.Kept.{leading}

-- the payloads of the leading blocks among so many as a file may have
unfoldable pub looked : Limits → List ℕ → List ℕ
looked l file = payloads file 0 (leading file 0 (min (block_count file) l.blocks))
