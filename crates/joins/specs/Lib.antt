-- What is known of a join.
pub mod ReadElsewhere
pub mod EachLaws
pub mod AddedLaws
pub mod JoinedLaws
pub mod JoinCases
pub mod InputFaults
pub mod JoinDemands
pub mod Refusals
pub mod InputsRead
pub mod InputsLaws
