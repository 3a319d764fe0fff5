pub use Rattle.sha2.proofs.Facts256
