-- What the proofs of sizes use.
pub mod Cases
