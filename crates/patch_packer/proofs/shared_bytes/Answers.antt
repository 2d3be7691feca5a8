-- `patch_packer::shared_bytes` meets its contract. Each byte is the sum of its fields, none of which leaves its bits.
-- Assumes nothing.
use mathlib.Core.Path.{sym}
use native.Mathlib.Omega.{arith}
use Rattle.patch_packer.proofs.Bytes.{shared_low, shared_bytes_lem}
use Rattle.patch_packer.proofs.shared_bytes.Goals as goal

pub overflow_mul-result : goal.overflow_mul-result
overflow_mul-result c = omega (arith, shared_low _ c.requires)

pub overflow_add-result : goal.overflow_add-result
overflow_add-result c = omega (arith, shared_low _ c.requires)

pub overflow_mul-result-2 : goal.overflow_mul-result-2
overflow_mul-result-2 c = omega (arith, shared_low _ c.requires)

pub overflow_add-result-2 : goal.overflow_add-result-2
overflow_add-result-2 c = omega (arith, shared_low _ c.requires)

pub overflow_mul-result-3 : goal.overflow_mul-result-3
overflow_mul-result-3 c = omega (arith, shared_low _ c.requires)

pub overflow_add-result-3 : goal.overflow_add-result-3
overflow_add-result-3 c = omega (arith, shared_low _ c.requires)

pub returns : goal.returns
returns c = sym (shared_bytes_lem _ c.requires)
