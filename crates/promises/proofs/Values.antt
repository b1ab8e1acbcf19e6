-- The values of document 01, by the crates' computations.
use mathlib.Core.Path.{refl}
use Rattle.time_days.proofs.Values as days
use Rattle.crc.proofs.Vectors.{vectors}
use Rattle.section_cutter.specs.Cutting.{section_count, counted_of}
use Rattle.promises.specs.Values.{Values}

pub values : Values
unfolding section_count counted_of
values =
    let d = days.values in (
      (d.6, d.5),
      (d.8, d.7),
      d.9,
      (d.11, d.10),
      (d.13, d.12),
      (d.15, d.14),
      d.16,
      (d.18, d.17),
      vectors.0,
      vectors.1,
      refl,
      refl,
      refl,
    )
